-- A choice by whether bytes are text.
use Rattle.std.proofs.Common.{◌≡◌, ℕ, List, Bool, true, false, refl, if◌then◌else◌, ap, sym}
use Rattle.std.specs.Str.{IsUtf8, is_utf8}
use Rattle.std.proofs.lemmas.Str.{IsUtf8-from_is_utf8, is_utf8-from_IsUtf8}

pub of-text : {A : Type 0} (bytes : List ℕ) (x y : A) → IsUtf8 bytes → x ≡ (if is_utf8 bytes then x else y)
of-text {A} bytes x y text = ap (λ (b : Bool). if b then x else y) (sym (is_utf8-from_IsUtf8 bytes text))

none-at : {A : Type 0} (b : Bool) (x y : A) → (b ≡ true → ⊥) → y ≡ (if b then x else y)
none-at true x y h = absurd (h refl)
none-at false x y h = refl

pub of-no-text : {A : Type 0} (bytes : List ℕ) (x y : A) → (IsUtf8 bytes → ⊥) → y ≡ (if is_utf8 bytes then x else y)
of-no-text bytes x y no_text = none-at (is_utf8 bytes) x y (λ e. no_text (IsUtf8-from_is_utf8 bytes e))
