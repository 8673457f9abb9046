-- What holds of every supports supports.
use Rattle.std.specs.Prelude.{ℕ, List, [], ◌∷◌, map}
use Rattle.std.proofs.Common.{sym, subst}
use Rattle.css_tokens.specs.declared.component.Component.{Component}
use Rattle.media_spelling.specs.declared.supports.Supports.{Supports, roll-Supports, ind-Supports}
use Rattle.media_spelling.specs.declared.supports.Supports as supports
use Rattle.media_spelling.specs.declared.supports.Supports.TheOpen.{Supports-F, And, Or, Not, Declared, Function}
use Rattle.media_spelling.specs.declared.supports.Supports.TheVariants.{rolls-And, rolls-Or, rolls-Not, rolls-Declared, rolls-Function}

-- P holds of each
abbrev pub Each : (P : Supports → Type 0) → List Supports → Type 0
Each P [] = Unit {0}
Each P (c ∷ cs) = P c × Each P cs

-- what is shown of each kind of condition, from what holds of the conditions in it
pub record Cases (P : Supports → Type 0) : Type 0 where
  pub and_of : (cs : List Supports) → Each P cs → P (supports.And cs)
  pub or_of : (cs : List Supports) → Each P cs → P (supports.Or cs)
  pub not_of : (c : Supports) → P c → P (supports.Not c)
  pub declared : (name : List ℕ) (value : List Component) → P (supports.Declared name value)
  pub function : (at : ℕ) → P (supports.Function at)

module _ (P : Supports → Type 0) (cases : Cases P) where
  abbrev Known : Type 0
  Known = Supports-F ((c : Supports) × P c)

  abbrev made : Known → Supports-F Supports
  made = supports.map-Supports ((c : Supports) × P c) Supports (λ e. e.0)

  each_of : (ys : List ((c : Supports) × P c)) → Each P (map (λ e. e.0) ys)
  each_of [] = tt
  each_of (y ∷ ys) = (y.1, each_of ys)

  step : (y : Known) → P (roll-Supports (made y))
  step (And ys) = subst P (sym (rolls-And (map (λ e. e.0) ys))) (cases.and_of (map (λ e. e.0) ys) (each_of ys))
  step (Or ys) = subst P (sym (rolls-Or (map (λ e. e.0) ys))) (cases.or_of (map (λ e. e.0) ys) (each_of ys))
  step (Not y) = subst P (sym (rolls-Not y.0)) (cases.not_of y.0 y.1)
  step (Declared name value) = subst P (sym (rolls-Declared name value)) (cases.declared name value)
  step (Function at) = subst P (sym (rolls-Function at)) (cases.function at)

  pub by_supports : (c : Supports) → P c
  by_supports c = ind-Supports P (λ x y is. subst (λ z. P (roll-Supports z)) is (step y)) c
