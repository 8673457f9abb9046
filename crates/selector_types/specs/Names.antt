-- Names in selectors. Every name is one: its escapes are decoded where a token is read (CSS Syntax 3, section 4.3.11).
use Rattle.std.specs.Prelude.{ℕ, List, [], ◌∷◌, Bool, false, codes, nat_eq}
use Rattle.std.specs.List.{list_any}
use Rattle.std.specs.Str.{str_to_ascii_lowercase}
use Rattle.css_tokens.specs.NameText.{name_text}
use Rattle.css_tokens.specs.Names.{starts_ident}
use Rattle.css_tokens.specs.Trees.{is_text}

-- a name in lower case
abbrev pub lowered : List ℕ → List ℕ
lowered name = str_to_ascii_lowercase name

-- is there a space in it?
abbrev pub has_space : List ℕ → Bool
has_space text = list_any (λ b. nat_eq b 32) text

-- the text that is kept of the name of a pseudo-class or a pseudo-element: in lower case, and as a name prints
abbrev pub pseudo_text : List ℕ → List ℕ
pseudo_text name = name_text (lowered name)

-- Is the Hash of this text an id? Its type flag is, where what stands behind `#` would start an identifier (section 4.3.1).
abbrev pub is_id : List ℕ → Bool
is_id [] = false
is_id (b ∷ text) = starts_ident text

-- the pseudo-elements that may have one colon
abbrev pub old_elements : List (List ℕ)
old_elements = codes "before" ∷ codes "after" ∷ codes "first-line" ∷ codes "first-letter" ∷ []

-- is it one of these?
abbrev pub is_old_element : List ℕ → Bool
is_old_element name = list_any (is_text name) old_elements
