-- Names of ASCII letters, digits, `_` and `-` that spell an Ident (CSS Syntax 3, section 4.3.9).
use Rattle.std.specs.Prelude.{ℕ, List, [], ◌∷◌, Bool, false, ◌&&◌, ◌||◌, ◌==◌, if◌then◌else◌}
use Rattle.std.specs.Char.{is_ascii_alphabetic, is_ascii_alphanumeric}
use Rattle.std.specs.List.{list_all}

-- an ASCII letter or `_`: the name starts below U+0080
abbrev pub is_plain_start : ℕ → Bool
is_plain_start b = is_ascii_alphabetic b || b == 95

-- an ASCII letter, a digit, `_` or `-`: the characters of names below U+0080
abbrev pub is_plain : ℕ → Bool
is_plain b = is_ascii_alphanumeric b || b == 95 || b == 45

-- after a first `-`: a second one or a name start, then name characters
abbrev pub is_plain_after_dash : List ℕ → Bool
is_plain_after_dash [] = false
is_plain_after_dash (b ∷ bs) = (b == 45 || is_plain_start b) && list_all is_plain bs

-- an optional `-`, a name start, then name characters; or `--`, then name characters
abbrev pub is_plain_name : List ℕ → Bool
is_plain_name [] = false
is_plain_name (b ∷ bs) = if b == 45 then is_plain_after_dash bs else is_plain_start b && list_all is_plain bs
