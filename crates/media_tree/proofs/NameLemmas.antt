-- Names in lower case.
use Rattle.std.proofs.Common.{◌≡◌, ℕ, List, [], ◌∷◌, Bool, true, false, refl, ◌∙◌, ap, arith, ◌||◌}
use Rattle.std.specs.List.{list_any}
use Rattle.std.specs.Char.{is_ascii_uppercase, to_ascii_lowercase}
use Rattle.std.specs.Str.{str_to_ascii_lowercase}
use Rattle.std.proofs.lemmas.Bool.Decides.{nat_tests}

or_false_left : (a b : Bool) → (a || b) ≡ false → a ≡ false
or_false_left true b e = e
or_false_left false b e = refl

or_false_right : (a b : Bool) → (a || b) ≡ false → b ≡ false
or_false_right true b e = cc
or_false_right false b e = e

lower-one : (b : ℕ) → is_ascii_uppercase b ≡ false → to_ascii_lowercase b ≡ b
lower-one b e = grind (arith, nat_tests)

-- a text without capitals is in lower case
pub lower-same : (bs : List ℕ) → list_any is_ascii_uppercase bs ≡ false → str_to_ascii_lowercase bs ≡ bs
lower-same [] e = refl
lower-same (b ∷ bs) e =
    let here = lower-one b (or_false_left (is_ascii_uppercase b) (list_any is_ascii_uppercase bs) e) in
    let rest = lower-same bs (or_false_right (is_ascii_uppercase b) (list_any is_ascii_uppercase bs) e) in
    ap (λ x. x ∷ str_to_ascii_lowercase bs) here ∙ ap (λ xs. b ∷ xs) rest
