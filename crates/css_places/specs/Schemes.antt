-- Addresses that lie elsewhere (URL Standard, section 4.4: a scheme).
use Rattle.std.specs.Prelude.{ℕ, List, [], ◌∷◌, Bool, false, ◌||◌, ◌&&◌, nat_eq, nat_le, if◌then◌else◌}

-- a letter of ASCII
abbrev pub is_letter : ℕ → Bool
is_letter c = (nat_le 65 c && nat_le c 90) || (nat_le 97 c && nat_le c 122)

-- what a scheme may hold behind its first letter: letters, digits, `+`, `-` and `.`
abbrev pub is_scheme_character : ℕ → Bool
is_scheme_character c = is_letter c || ((nat_le 48 c && nat_le c 57) || (nat_eq c 43 || (nat_eq c 45 || nat_eq c 46)))

-- what stands behind the characters of a scheme
abbrev pub behind_scheme : List ℕ → List ℕ
behind_scheme [] = []
behind_scheme (c ∷ text) = if is_scheme_character c then behind_scheme text else c ∷ text

-- does it begin with this character?
abbrev pub begins_with : ℕ → List ℕ → Bool
begins_with c [] = false
begins_with c (d ∷ text) = nat_eq d c

-- Does it begin with a scheme: with a letter, perhaps with more characters of a scheme, and then with a colon?
abbrev pub has_scheme : List ℕ → Bool
has_scheme [] = false
has_scheme (c ∷ text) = is_letter c && begins_with 58 (behind_scheme text)
