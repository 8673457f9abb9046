-- What a `Text` holds.
use Rattle.std.specs.Prelude.{ℕ, List, string_bytes}
use Rattle.css_tokens.specs.declared.text.Held.{Held}
use Rattle.css_tokens.specs.declared.text.Held.TheVariants.{Lent, Owned}

-- the bytes, wherever they lie
abbrev pub bytes_of : Held → List ℕ
bytes_of (Lent text) = text.now
bytes_of (Owned text) = string_bytes text
