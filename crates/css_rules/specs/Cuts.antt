-- Lists cut at marks, as rules and declarations are (CSS Syntax 3, section 5.4).
use Rattle.std.specs.Prelude.{List, [], ◌∷◌, ◌++◌, Bool, Option, Some, None, if◌then◌else◌}
use Rattle.css_tokens.specs.declared.component.Component.{Component}

-- what stands before a mark, and the mark, or nothing where the list ends
pub record Cut : Type 0 where
  pub front : List Component
  pub mark : Option Component

-- the cuts, with one more component at the start of the first
abbrev pub with_front : Component → List Cut → List Cut
with_front c [] = []
with_front c (cut ∷ cuts) = record { front = c ∷ cut.front; mark = cut.mark } ∷ cuts

-- The cuts of what stands behind these components. It is cut at each component that ends what stands before it since the last cut. The last cut ends where the list does.
abbrev pub cuts_behind : (List Component → Component → Bool) → List Component → List Component → List Cut
cuts_behind ends before [] = record { front = []; mark = None } ∷ []
cuts_behind ends before (c ∷ cs) =
    if ends before c then record { front = []; mark = Some c } ∷ cuts_behind ends [] cs else with_front c (cuts_behind ends (before ++ c ∷ []) cs)

-- the list cut at each component that ends what stands before it
abbrev pub cuts : (List Component → Component → Bool) → List Component → List Cut
cuts ends cs = cuts_behind ends [] cs

-- the list cut at each component that passes the test
abbrev pub cuts_at : (Component → Bool) → List Component → List Cut
cuts_at test cs = cuts (λ before c. test c) cs
