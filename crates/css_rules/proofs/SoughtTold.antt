-- Whether a token is sought, and the refusal at the first that is.
use Rattle.std.proofs.Common.{◌≡◌, List, [], ◌∷◌, Bool, true, false, ◌||◌, Option, Some, refl, sym, ◌∙◌, cond, find}
use Rattle.std.specs.List.{list_any}
use Rattle.css_tokens.specs.declared.component.Component.{Component}
use Rattle.css_tokens.specs.Piece.{Piece}
use Rattle.css_tokens.specs.Trees.{pieces_all}
use Rattle.css_rules.specs.declared.refusal.Refusal.{Refusal}
use Rattle.css_rules.specs.declared.refusal.Sought.{Sought}
use Rattle.css_rules.specs.Refusals.{unbuilt_at, is_sought, has_sought, sought_in}

abbrev found_by : Piece → Option Piece → Bool → Option Piece
found_by p rest b = cond b (Some p) rest

any-none : (test : Piece → Bool) (ps : List Piece) → list_any test ps ≡ false → unbuilt_at (find test ps) ≡ []
any-none test [] e = refl
any-none test (p ∷ ps) e = at (test p) (any-none test ps) e
  where
    at : (b : Bool) → (list_any test ps ≡ false → unbuilt_at (find test ps) ≡ []) → (b || list_any test ps) ≡ false → unbuilt_at (cond b (Some p) (find test ps)) ≡ []
    at true rest h = absurd (cc h)
    at false rest h = rest h

none-any : (test : Piece → Bool) (ps : List Piece) → unbuilt_at (find test ps) ≡ [] → list_any test ps ≡ false
none-any test [] e = refl
none-any test (p ∷ ps) e = at (test p) (none-any test ps) e
  where
    at : (b : Bool) → (unbuilt_at (find test ps) ≡ [] → list_any test ps ≡ false) → unbuilt_at (cond b (Some p) (find test ps)) ≡ [] → (b || list_any test ps) ≡ false
    at true rest h = absurd (cc h)
    at false rest h = rest h

pub sought-none : (sought : Sought) (cs : List Component) → has_sought sought cs ≡ false → sought_in sought cs ≡ []
sought-none sought cs = any-none (is_sought sought) (pieces_all cs)

pub none-sought : (sought : Sought) (cs : List Component) → sought_in sought cs ≡ [] → has_sought sought cs ≡ false
none-sought sought cs = none-any (is_sought sought) (pieces_all cs)

-- one is found where any is sought
pub sought-some : (sought : Sought) (cs : List Component) → has_sought sought cs ≡ true → (r : Refusal) × (more : List Refusal) × (sought_in sought cs ≡ r ∷ more)
sought-some sought cs e = at (sought_in sought cs) refl
  where
    at : (rs : List Refusal) → sought_in sought cs ≡ rs → (r : Refusal) × (more : List Refusal) × (sought_in sought cs ≡ r ∷ more)
    at [] is = let none = sym e ∙ none-sought sought cs is in absurd (cc none)
    at (r ∷ rs) is = (r, rs, is)
