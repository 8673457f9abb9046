-- A scan that finds nothing says where nothing stands.
use Rattle.std.proofs.Common.{◌≡◌, ℕ, Bool, true, false, not, ◌||◌, List, [], ◌∷◌, None, refl, length, arith}
use Rattle.std.specs.List.{list_any, position, prefix_len}

none_by : (here rest : Bool) → (here || rest) ≡ false → (here ≡ false) × (rest ≡ false)
none_by true rest h = cc
none_by false rest h = (refl, h)

all_before : (test : ℕ → Bool) (xs : List ℕ) → list_any test xs ≡ false → prefix_len (λ x. not (test x)) xs ≡ length xs
all_before test [] h = refl
all_before test (x ∷ xs) h =
    let parts = none_by (test x) (list_any test xs) h in
    let rest = all_before test xs parts.1 in
    rw parts.0 (omega (arith, rest))

pub none_found : (test : ℕ → Bool) (xs : List ℕ) → list_any test xs ≡ false → position test xs ≡ None
none_found test xs h =
    let n = all_before test xs h in
    grind (arith, n)
