-- The run of characters that a text begins with, which the reader takes at once.
use Rattle.std.specs.Prelude.{ℕ, suc, List, [], ◌∷◌, Bool, false, if◌then◌else◌}
use Rattle.css_tokens.specs.declared.class.Class.{Class}
use Rattle.css_tokens.specs.declared.class.Class.TheVariants as class
use Rattle.css_tokens.specs.declared.front.Set.{Set}
use Rattle.css_tokens.specs.declared.front.Set.TheVariants as set
use Rattle.css_tokens.specs.Characters.{has, name, name_start, white}

-- the characters of each set
abbrev pub in_set : Set → List Class
in_set set.White = white
in_set set.Digits = class.Digit ∷ []
in_set set.Name = name
in_set set.NameStart = name_start
in_set set.Hash = class.Hash ∷ []
in_set set.Dot = class.Dot ∷ []
in_set set.Percent = class.Percent ∷ []
in_set set.UnitStart = class.Hex ∷ class.Letter ∷ []
in_set set.Escape = class.Backslash ∷ []
in_set set.AfterIdent = class.OpenParen ∷ class.Backslash ∷ []
in_set set.AfterInteger = class.Dot ∷ class.Minus ∷ class.Percent ∷ class.Backslash ∷ name_start

-- how many characters of these classes the text begins with
abbrev pub run_length : List Class → List Class → ℕ
run_length set [] = 0
run_length set (x ∷ s) = if has set x then suc (run_length set s) else 0

-- is there a first character, and of one of these classes?
abbrev pub is_headed : List Class → List Class → Bool
is_headed set [] = false
is_headed set (x ∷ s) = has set x
