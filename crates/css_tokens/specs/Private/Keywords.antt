-- A content that is compared with a word as it is decoded.
use Rattle.std.specs.Prelude.{ℕ, List, [], ◌∷◌, Bool, true, false, Option, Some, None, if◌then◌else◌, nat_eq}
use Rattle.std.specs.Char.{to_ascii_lowercase}

-- what is left of the word behind the text, whose letters may be in any case; nothing where the word goes on otherwise
abbrev pub left_after : List ℕ → List ℕ → Option (List ℕ)
left_after word [] = Some word
left_after [] (b ∷ text) = None
left_after (w ∷ word) (b ∷ text) = if nat_eq (to_ascii_lowercase b) w then left_after word text else None

-- is nothing left?
abbrev pub is_done : Option (List ℕ) → Bool
is_done (Some []) = true
is_done _ = false
