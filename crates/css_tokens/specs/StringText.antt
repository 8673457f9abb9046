-- How a text prints as a string: the string serialization of CSSOM, section 2.1.
use Rattle.std.specs.Prelude.{ℕ, List, [], ◌∷◌, ◌++◌, ◌||◌, ◌==◌, flat_map, if◌then◌else◌}
use Rattle.std.specs.Int.{is_in_range}
use Rattle.css_tokens.specs.NameText.{code_escape}

-- U+0001 to U+001F and U+007F by their code, `"` and `\` behind `\`, and any other byte as itself
abbrev pub string_byte : ℕ → List ℕ
string_byte b =
    if is_in_range 1 0x1F b || b == 0x7F then code_escape b
    else (if b == 34 || b == 92 then 92 ∷ b ∷ [] else b ∷ [])

-- the text in double quotes
abbrev pub string_text : List ℕ → List ℕ
string_text text = 34 ∷ flat_map string_byte text ++ 34 ∷ []
