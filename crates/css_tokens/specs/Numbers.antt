-- Numbers and dimensions without a fraction and without an exponent (CSS Syntax 3, section 4.3.12).
use Rattle.std.specs.Prelude.{ℕ, List, [], ◌∷◌, ◌++◌, Bool, true, false, ◌&&◌, ◌||◌, nat_eq}
use Rattle.std.specs.Char.{is_ascii_digit}
use Rattle.std.specs.List.{list_all}
use Rattle.css_tokens.specs.declared.class.Class.{Class}
use Rattle.css_tokens.specs.declared.class.Class.TheVariants as class
use Rattle.css_tokens.specs.Characters.{name}

-- nothing, or a `+` or a `-`
abbrev pub is_sign : List ℕ → Bool
is_sign [] = true
is_sign (b ∷ []) = nat_eq b 43 || nat_eq b 45
is_sign (b ∷ c ∷ text) = false

-- does it begin with a digit?
abbrev pub begins_digit : List ℕ → Bool
begins_digit [] = false
begins_digit (b ∷ text) = is_ascii_digit b

-- digits alone, and one at least
abbrev pub is_digits : List ℕ → Bool
is_digits text = begins_digit text && list_all is_ascii_digit text

-- the characters with which a number of digits goes on: those of a name, `.`, `%` and `\`
abbrev pub after_number : List Class
after_number = name ++ class.Dot ∷ class.Percent ∷ class.Backslash ∷ []
