-- Functions of supports conditions by one step for each kind of condition.
use Rattle.std.specs.Prelude.{ℕ, List, map, ◌≡◌}
use Rattle.std.proofs.Common.{◌∙◌, ap}
use Rattle.css_tokens.specs.declared.component.Component.{Component}
use Rattle.media_spelling.specs.declared.supports.Supports.{Supports}
use Rattle.media_spelling.specs.declared.supports.Supports as supports
use Rattle.media_spelling.specs.declared.supports.Supports.TheVariants.{outs-And, outs-Or, outs-Not, outs-Declared, outs-Function}
use Rattle.media_spelling.specs.declared.supports.Supports.TheOpen.{Supports-F, And, Or, Not, Declared, Function}
use Rattle.media_spelling.specs.declared.supports.Supports.TheFolds.{fold-Supports, fold_out-Supports}

-- what is made of each kind of condition, from what is made of the conditions in it
pub record Steps (A : Type 0) : Type 0 where
  pub and_of : List A → A
  pub or_of : List A → A
  pub not_of : A → A
  pub declared : List ℕ → List Component → A
  pub function : ℕ → A

module _ {A : Type 0} (steps : Steps A) where
  -- the step of each kind of condition
  abbrev pub of_supports : Supports-F A → A
  of_supports (And cs) = steps.and_of cs
  of_supports (Or cs) = steps.or_of cs
  of_supports (Not c) = steps.not_of c
  of_supports (Declared name value) = steps.declared name value
  of_supports (Function at) = steps.function at

  -- what is made of a condition
  abbrev pub folded : Supports → A
  folded = fold-Supports A of_supports

  -- what is made of a condition, laid open
  abbrev layer_folded : Supports-F Supports → A
  layer_folded v = of_supports (supports.map-Supports Supports A folded v)

  out_folded : (x : Supports) (v : Supports-F Supports) → supports.out-Supports x ≡ v → folded x ≡ layer_folded v
  out_folded x v e = fold_out-Supports A of_supports x ∙ ap layer_folded e

  -- What is made of each kind.
  pub folded-And : (cs : List Supports) → folded (supports.And cs) ≡ steps.and_of (map folded cs)
  folded-And cs = out_folded (supports.And cs) (And cs) (outs-And cs)

  pub folded-Or : (cs : List Supports) → folded (supports.Or cs) ≡ steps.or_of (map folded cs)
  folded-Or cs = out_folded (supports.Or cs) (Or cs) (outs-Or cs)

  pub folded-Not : (c : Supports) → folded (supports.Not c) ≡ steps.not_of (folded c)
  folded-Not c = out_folded (supports.Not c) (Not c) (outs-Not c)

  pub folded-Declared : (name : List ℕ) (value : List Component) → folded (supports.Declared name value) ≡ steps.declared name value
  folded-Declared name value = out_folded (supports.Declared name value) (Declared name value) (outs-Declared name value)

  pub folded-Function : (at : ℕ) → folded (supports.Function at) ≡ steps.function at
  folded-Function at = out_folded (supports.Function at) (Function at) (outs-Function at)
