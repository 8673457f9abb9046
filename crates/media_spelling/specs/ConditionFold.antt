-- Functions of media conditions by one step for each kind of condition.
use Rattle.std.specs.Prelude.{List, map, ◌≡◌}
use Rattle.std.proofs.Common.{◌∙◌, ap}
use Rattle.media_spelling.specs.declared.condition.Feature.{Feature as FeatureRecord}
use Rattle.media_spelling.specs.declared.condition.Range.{Range as RangeRecord}
use Rattle.media_spelling.specs.declared.condition.Condition.{Condition}
use Rattle.media_spelling.specs.declared.condition.Condition as condition
use Rattle.media_spelling.specs.declared.condition.Condition.TheVariants.{outs-And, outs-Or, outs-Not, outs-Feature, outs-Range}
use Rattle.media_spelling.specs.declared.condition.Condition.TheOpen.{Condition-F, And, Or, Not, Feature, Range}
use Rattle.media_spelling.specs.declared.condition.Condition.TheFolds.{fold-Condition, fold_out-Condition}

-- what is made of each kind of condition, from what is made of the conditions in it
pub record Steps (A : Type 0) : Type 0 where
  pub and_of : List A → A
  pub or_of : List A → A
  pub not_of : A → A
  pub feature : FeatureRecord → A
  pub range : RangeRecord → A

module _ {A : Type 0} (steps : Steps A) where
  -- the step of each kind of condition
  abbrev pub of_condition : Condition-F A → A
  of_condition (And cs) = steps.and_of cs
  of_condition (Or cs) = steps.or_of cs
  of_condition (Not c) = steps.not_of c
  of_condition (Feature f) = steps.feature f
  of_condition (Range r) = steps.range r

  -- what is made of a condition
  abbrev pub folded : Condition → A
  folded = fold-Condition A of_condition

  -- what is made of a condition, laid open
  abbrev layer_folded : Condition-F Condition → A
  layer_folded v = of_condition (condition.map-Condition Condition A folded v)

  out_folded : (x : Condition) (v : Condition-F Condition) → condition.out-Condition x ≡ v → folded x ≡ layer_folded v
  out_folded x v e = fold_out-Condition A of_condition x ∙ ap layer_folded e

  -- What is made of each kind.
  pub folded-And : (cs : List Condition) → folded (condition.And cs) ≡ steps.and_of (map folded cs)
  folded-And cs = out_folded (condition.And cs) (And cs) (outs-And cs)

  pub folded-Or : (cs : List Condition) → folded (condition.Or cs) ≡ steps.or_of (map folded cs)
  folded-Or cs = out_folded (condition.Or cs) (Or cs) (outs-Or cs)

  pub folded-Not : (c : Condition) → folded (condition.Not c) ≡ steps.not_of (folded c)
  folded-Not c = out_folded (condition.Not c) (Not c) (outs-Not c)

  pub folded-Feature : (f : FeatureRecord) → folded (condition.Feature f) ≡ steps.feature f
  folded-Feature f = out_folded (condition.Feature f) (Feature f) (outs-Feature f)

  pub folded-Range : (r : RangeRecord) → folded (condition.Range r) ≡ steps.range r
  folded-Range r = out_folded (condition.Range r) (Range r) (outs-Range r)
