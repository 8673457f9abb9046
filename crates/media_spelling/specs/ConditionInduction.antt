-- What holds of every media condition.
use Rattle.std.specs.Prelude.{List, [], ◌∷◌, map}
use Rattle.std.proofs.Common.{sym, subst}
use Rattle.media_spelling.specs.declared.condition.Feature.{Feature as FeatureRecord}
use Rattle.media_spelling.specs.declared.condition.Range.{Range as RangeRecord}
use Rattle.media_spelling.specs.declared.condition.Condition.{Condition, roll-Condition, ind-Condition}
use Rattle.media_spelling.specs.declared.condition.Condition as condition
use Rattle.media_spelling.specs.declared.condition.Condition.TheOpen.{Condition-F, And, Or, Not, Feature, Range}
use Rattle.media_spelling.specs.declared.condition.Condition.TheVariants.{rolls-And, rolls-Or, rolls-Not, rolls-Feature, rolls-Range}

-- P holds of each
abbrev pub Each : (P : Condition → Type 0) → List Condition → Type 0
Each P [] = Unit {0}
Each P (c ∷ cs) = P c × Each P cs

-- what is shown of each kind of condition, from what holds of the conditions in it
pub record Cases (P : Condition → Type 0) : Type 0 where
  pub and_of : (cs : List Condition) → Each P cs → P (condition.And cs)
  pub or_of : (cs : List Condition) → Each P cs → P (condition.Or cs)
  pub not_of : (c : Condition) → P c → P (condition.Not c)
  pub feature : (f : FeatureRecord) → P (condition.Feature f)
  pub range : (r : RangeRecord) → P (condition.Range r)

module _ (P : Condition → Type 0) (cases : Cases P) where
  abbrev Known : Type 0
  Known = Condition-F ((c : Condition) × P c)

  abbrev made : Known → Condition-F Condition
  made = condition.map-Condition ((c : Condition) × P c) Condition (λ e. e.0)

  each_of : (ys : List ((c : Condition) × P c)) → Each P (map (λ e. e.0) ys)
  each_of [] = tt
  each_of (y ∷ ys) = (y.1, each_of ys)

  step : (y : Known) → P (roll-Condition (made y))
  step (And ys) = subst P (sym (rolls-And (map (λ e. e.0) ys))) (cases.and_of (map (λ e. e.0) ys) (each_of ys))
  step (Or ys) = subst P (sym (rolls-Or (map (λ e. e.0) ys))) (cases.or_of (map (λ e. e.0) ys) (each_of ys))
  step (Not y) = subst P (sym (rolls-Not y.0)) (cases.not_of y.0 y.1)
  step (Feature f) = subst P (sym (rolls-Feature f)) (cases.feature f)
  step (Range r) = subst P (sym (rolls-Range r)) (cases.range r)

  pub by_conditions : (c : Condition) → P c
  by_conditions c = ind-Condition P (λ x y is. subst (λ z. P (roll-Condition z)) is (step y)) c
