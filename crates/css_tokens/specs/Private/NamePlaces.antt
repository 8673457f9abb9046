-- Where in a name a character stands, and the text from there on (CSSOM, section 2.1).
use Rattle.std.specs.Prelude.{ℕ, List, Bool, true, false, ◌==◌, flat_map, if◌then◌else◌}
use Rattle.css_tokens.specs.declared.print.Place.{Place}
use Rattle.css_tokens.specs.declared.print.Place.TheVariants.{First, AfterDash, Later}
use Rattle.css_tokens.specs.NameText.{char_text, after_dash, chars_text}

-- would a digit here begin a number: at the first place, or right after a first `-`?
abbrev pub is_early : Place → Bool
is_early First = true
is_early AfterDash = true
is_early Later = false

-- the place of the character that follows this one
abbrev pub place_after : Place → ℕ → Place
place_after First c = if c == 45 then AfterDash else Later
place_after AfterDash c = Later
place_after Later c = Later

-- how the characters print that stand from this place on
abbrev pub text_from : Place → List ℕ → List ℕ
text_from First cs = chars_text cs
text_from AfterDash cs = after_dash cs
text_from Later cs = flat_map char_text cs
