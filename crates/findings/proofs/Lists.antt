-- The media query lists in each kind of item, and which of them are long.
use Rattle.std.specs.Prelude.{flat_map, if◌then◌else◌, min}
use Rattle.std.specs.List.{list_any}
use Rattle.std.proofs.Common.{◌≡◌, ℕ, ◌<◌, ◌+◌, ◌-◌, ◌^◌, List, ◌∷◌, Bool, true, false, not, ◌&&◌, ◌||◌, length, get_or, drop, nat_lt, refl, sym, ◌∙◌, ap, arith}
use Rattle.std.proofs.lemmas.Bool.Decides.{nat_tests}
use Rattle.std.proofs.lemmas.List.{drop_more}
use Rattle.std.proofs.lemmas.List.Folds.{list_any-append}
use Rattle.findings.specs.Limits.{lists-Plain, lists-Style, lists-Group, lists-Passed, lists-Other}

pub ruleset listed = (lists-Plain, lists-Style, lists-Group, lists-Passed, lists-Other)

-- one more of a list, and those behind it
pub any-step : {X Y : Type 0} (p : Y → Bool) (g : X → List Y) (xs : List X) (i : ℕ) (x : X) → i < length xs → x ≡ get_or xs i x
    → list_any p (flat_map g (drop i xs)) ≡ (list_any p (g x) || list_any p (flat_map g (drop (i + 1) xs)))
any-step p g xs i x within is =
    ap (λ ys. list_any p (flat_map g ys)) (drop_more xs i x within ∙ ap (λ y. y ∷ drop (i + 1) xs) (sym is))
    ∙ list_any-append p (g x) (flat_map g (drop (i + 1) xs))

-- a count is greater than 64 where it is so up to the greatest number that is counted
pub capped-long : (n : ℕ) → nat_lt 64 (min n (2 ^ 64 - 1)) ≡ nat_lt 64 n
capped-long n = grind (arith, nat_tests)

-- the count of a list that is not plain
pub counted-long : (plain : Bool) (n : ℕ) → (not plain && nat_lt 64 (min n (2 ^ 64 - 1))) ≡ nat_lt 64 (if plain then 0 else n)
counted-long true n = refl
counted-long false n = capped-long n

-- none was met up to one more
pub any-past : {X Y : Type 0} (p : Y → Bool) (g : X → List Y) (xs : List X) (i : ℕ) (x : X) (asked whole : Bool) → i < length xs → x ≡ get_or xs i x
    → asked ≡ list_any p (g x) → asked ≡ false → list_any p (flat_map g (drop i xs)) ≡ whole → list_any p (flat_map g (drop (i + 1) xs)) ≡ whole
any-past p g xs i x asked whole within is answer fails behind =
    sym (any-step p g xs i x within is ∙ ap (λ b. b || list_any p (flat_map g (drop (i + 1) xs))) (sym answer ∙ fails)) ∙ behind

-- one was met
pub any-here : {X Y : Type 0} (p : Y → Bool) (g : X → List Y) (xs : List X) (i : ℕ) (x : X) (asked whole : Bool) → i < length xs → x ≡ get_or xs i x
    → asked ≡ list_any p (g x) → asked ≡ true → list_any p (flat_map g (drop i xs)) ≡ whole → true ≡ whole
any-here p g xs i x asked whole within is answer holds behind =
    sym (any-step p g xs i x within is ∙ ap (λ b. b || list_any p (flat_map g (drop (i + 1) xs))) (sym answer ∙ holds)) ∙ behind
