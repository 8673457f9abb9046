-- The text of AN+B, in lower case (CSS Syntax 3, section 6).
use Rattle.std.specs.Prelude.{ℕ, List, [], ◌∷◌, Bool, true, false, ◌||◌, ◌&&◌, codes, nat_eq, length, take, drop, if◌then◌else◌}
use Rattle.std.specs.List.{list_all}
use Rattle.std.specs.Char.{is_ascii_digit}
use Rattle.css_tokens.specs.Trees.{is_text}
use Rattle.css_tokens.specs.Numbers.{begins_digit}
use Rattle.selector_types.specs.Spelling.{unsigned}

-- without spaces in front
abbrev pub after_spaces : List ℕ → List ℕ
after_spaces [] = []
after_spaces (b ∷ text) = if nat_eq b 32 then after_spaces text else b ∷ text

-- without digits in front
abbrev pub after_digits : List ℕ → List ℕ
after_digits [] = []
after_digits (b ∷ text) = if is_ascii_digit b then after_digits text else b ∷ text

-- are there spaces alone?
abbrev pub is_blank : List ℕ → Bool
is_blank text = list_all (λ b. nat_eq b 32) text

-- this word, and then spaces
abbrev pub is_word : List ℕ → List ℕ → Bool
is_word word text = is_text (take (length word) text) word && is_blank (drop (length word) text)

-- digits, and then spaces
abbrev pub is_integer : List ℕ → Bool
is_integer text = begins_digit text && is_blank (after_digits text)

-- a sign and digits, with spaces round the sign and behind; or nothing
abbrev pub is_offset : List ℕ → Bool
is_offset [] = true
is_offset (b ∷ text) = (nat_eq b 43 || nat_eq b 45) && is_integer (after_spaces text)

-- `n`, and then perhaps a sign and digits
abbrev pub is_step : List ℕ → Bool
is_step [] = false
is_step (b ∷ text) = nat_eq b 110 && is_offset (after_spaces text)

-- `odd`, `even`, an optional sign and digits, or an optional sign, optional digits, `n` and perhaps a sign and digits
abbrev pub is_an_plus_b : List ℕ → Bool
is_an_plus_b text = is_word (codes "odd") text || is_word (codes "even") text || is_integer (unsigned text) || is_step (after_digits (unsigned text))
