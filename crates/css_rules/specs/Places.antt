-- Where rules stand.
use Rattle.std.specs.Prelude.{ℕ, List, [], ◌∷◌}
use Rattle.css_tokens.specs.declared.component.Component.{Component}
use Rattle.css_components.specs.Components.{place_of}

-- the place of the first of these components, or the other place where there are none
abbrev pub first_place : List Component → ℕ → ℕ
first_place [] otherwise = otherwise
first_place (c ∷ cs) otherwise = place_of c
