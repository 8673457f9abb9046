-- Names in lower case.
use Rattle.std.proofs.Common.{◌≡◌, ℕ, List, [], ◌∷◌, Bool, true, false, ◌&&◌, cond, nat_eq, refl, ◌∙◌, ap, arith}
use Rattle.std.specs.Char.{to_ascii_lowercase}
use Rattle.std.specs.Str.{str_to_ascii_lowercase}
use Rattle.std.proofs.lemmas.Bool.Decides.{nat_tests}
use Rattle.css_tokens.specs.Names.{is_name}
use Rattle.css_rules.proofs.LowerNames.{lower-name}
use Rattle.css_components.specs.Components.{is_custom}
use Rattle.css_rules.specs.Declarations.{property_name}

dash-lower : (b : ℕ) → nat_eq 45 (to_ascii_lowercase b) ≡ nat_eq 45 b
dash-lower b = grind (arith, nat_tests)

lower-twice_one : (b : ℕ) → to_ascii_lowercase (to_ascii_lowercase b) ≡ to_ascii_lowercase b
lower-twice_one b = grind (arith, nat_tests)

lower-twice : (bs : List ℕ) → str_to_ascii_lowercase (str_to_ascii_lowercase bs) ≡ str_to_ascii_lowercase bs
lower-twice [] = refl
lower-twice (b ∷ bs) =
    ap (λ x. x ∷ str_to_ascii_lowercase (str_to_ascii_lowercase bs)) (lower-twice_one b)
    ∙ ap (λ xs. to_ascii_lowercase b ∷ xs) (lower-twice bs)

lower-custom : (name : List ℕ) → is_custom (str_to_ascii_lowercase name) ≡ is_custom name
lower-custom [] = refl
lower-custom (b ∷ []) = ap (λ x. x && false) (dash-lower b)
lower-custom (b ∷ c ∷ bs) =
    ap (λ x. x && (nat_eq 45 (to_ascii_lowercase c) && true)) (dash-lower b)
    ∙ ap (λ x. nat_eq 45 b && (x && true)) (dash-lower c)

-- Names of properties.

abbrev named_at : List ℕ → Bool → List ℕ
named_at name custom = cond custom name (str_to_ascii_lowercase name)

pub property-named : (name : List ℕ) → is_name name ≡ true → is_name (property_name name) ≡ true
property-named name e = at (is_custom name)
  where
    at : (custom : Bool) → is_name (named_at name custom) ≡ true
    at true = e
    at false = lower-name name e

pub property-custom : (name : List ℕ) → is_custom (property_name name) ≡ is_custom name
property-custom name = at (is_custom name)
  where
    at : (custom : Bool) → is_custom (named_at name custom) ≡ is_custom name
    at true = refl
    at false = lower-custom name

pub property-again : (name : List ℕ) → property_name (property_name name) ≡ property_name name
property-again name = ap (named_at (property_name name)) (property-custom name) ∙ at (is_custom name)
  where
    at : (custom : Bool) → named_at (named_at name custom) custom ≡ named_at name custom
    at true = refl
    at false = lower-twice name
