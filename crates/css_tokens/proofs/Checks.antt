-- A text in UTF-8 is refused at its first character that no text may hold.
use Rattle.std.proofs.Common.{◌≡◌, ℕ, List, length, take, Bool, cond, nat_eq, refl, ap, ap₂, ◌∙◌, Option, Some, None, eq-eqb}
use Rattle.std.proofs.Math.Seq.{take-length}
use Rattle.std.proofs.lemmas.Str.{utf8_valid_len-IsUtf8}
use Rattle.std.specs.Str.{IsUtf8}
use Rattle.std.specs.List.{position}
use Rattle.css_tokens.specs.Tokens.{or_else, bad_place, is_control}

or_none : (o : Option ℕ) → or_else o None ≡ o
or_none None = refl
or_none (Some n) = refl

pub bad_utf8 : (t : List ℕ) → IsUtf8 t → bad_place t ≡ position is_control t
bad_utf8 t u =
    ap (λ (n : ℕ). or_else (position is_control (take n t)) (cond (nat_eq n (length t)) None (Some n))) (utf8_valid_len-IsUtf8 t u)
    ∙ ap₂ (λ (s : List ℕ) (b : Bool). or_else (position is_control s) (cond b None (Some (length t)))) (take-length t) (eq-eqb (length t) (length t) refl)
    ∙ or_none (position is_control t)
