-- Texts in UTF-8.
use Rattle.std.proofs.Common.{◌≡◌, ℕ, List, ◌++◌, Bool, true, false, refl}
use Rattle.std.specs.Prelude.{Some, None, if◌then◌else◌}
use Rattle.std.proofs.lemmas.Bool.{false≢true}
use Rattle.std.specs.Str.{IsUtf8, is_utf8}
use Rattle.std.proofs.lemmas.Str.{IsUtf8-append, IsUtf8-from_is_utf8, is_utf8-from_IsUtf8}
use Rattle.media_tree.specs.Features.{in_utf8}

some-at : (t : List ℕ) (b : Bool) → b ≡ true → Some t ≡ (if b then Some t else None)
some-at t true h = refl
some-at t false h = absurd (false≢true h)

pub in-utf8 : (t : List ℕ) → IsUtf8 t → Some t ≡ in_utf8 t
in-utf8 t h = some-at t (is_utf8 t) (is_utf8-from_IsUtf8 t h)

none-at : (t : List ℕ) (b : Bool) → (b ≡ true → ⊥) → None ≡ (if b then Some t else None)
none-at t true h = absurd (h refl)
none-at t false h = refl

pub not-in-utf8 : (t : List ℕ) → (IsUtf8 t → ⊥) → None ≡ in_utf8 t
not-in-utf8 t h = none-at t (is_utf8 t) (λ e. h (IsUtf8-from_is_utf8 t e))

pub utf8-append : (a b : List ℕ) → is_utf8 a ≡ true → is_utf8 b ≡ true → is_utf8 (a ++ b) ≡ true
utf8-append a b h k = is_utf8-from_IsUtf8 (a ++ b) (IsUtf8-append a b (IsUtf8-from_is_utf8 a h) (IsUtf8-from_is_utf8 b k))
