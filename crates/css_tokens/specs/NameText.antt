-- How a name prints: the identifier serialization of CSSOM, section 2.1, which here escapes U+FEFF too.
use Rattle.std.specs.Prelude.{ℕ, List, [], ◌∷◌, ◌++◌, Bool, false, ◌||◌, ◌==◌, flat_map, if◌then◌else◌, codes, nat_le}
use Rattle.std.specs.Char.{is_ascii_digit, is_ascii_alphanumeric, encode_utf8}
use Rattle.std.specs.Str.{chars}
use Rattle.std.specs.Fmt.{digits}
use Rattle.std.specs.Int.{is_in_range}
use Rattle.css_tokens.specs.Trees.{is_text}

-- `\`, the code point in lower case hexadecimal, and a space
abbrev pub code_escape : ℕ → List ℕ
code_escape c = 92 ∷ digits 16 false c ++ 32 ∷ []

-- U+0001 to U+001F, U+007F and U+FEFF
abbrev pub needs_code : ℕ → Bool
needs_code c = is_in_range 1 0x1F c || c == 0x7F || c == 0xFEFF

-- letters, digits, `_`, `-`, and all from U+0080 on
abbrev pub stands_for_itself : ℕ → Bool
stands_for_itself c = is_ascii_alphanumeric c || c == 95 || c == 45 || nat_le 0x80 c

-- a character of a name, where a digit stands for itself
abbrev pub char_text : ℕ → List ℕ
char_text c = if needs_code c then code_escape c else (if stands_for_itself c then encode_utf8 c else 92 ∷ encode_utf8 c)

-- a character in a place where a digit would begin a number
abbrev pub first_text : ℕ → List ℕ
first_text c = if is_ascii_digit c then code_escape c else char_text c

-- the characters after a first `-`
abbrev pub after_dash : List ℕ → List ℕ
after_dash [] = []
after_dash (c ∷ cs) = first_text c ++ flat_map char_text cs

-- how the characters of a name print, from the first on
abbrev pub chars_text : List ℕ → List ℕ
chars_text [] = []
chars_text (c ∷ cs) = first_text c ++ (if c == 45 then after_dash cs else flat_map char_text cs)

-- the name `-` as `\-`, any other character by character
abbrev pub name_text : List ℕ → List ℕ
name_text name = if is_text name (codes "-") then 92 ∷ 45 ∷ [] else chars_text (chars name)
