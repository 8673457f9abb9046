-- Declarations (CSS Syntax 3, section 5.4.6; CSS Variables 1, section 2).
use Rattle.std.specs.Prelude.{ℕ, List, [], ◌∷◌, Bool, true, false, ◌&&◌, ◌||◌, not, codes, Option, Some, None, if◌then◌else◌, is_some}
use Rattle.std.specs.List.{list_any}
use Rattle.std.specs.Str.{str_to_ascii_lowercase}
use Rattle.css_tokens.specs.declared.component.Component.{Component}
use Rattle.css_tokens.specs.Piece.{Piece}
use Rattle.sheet_types.specs.declared.sheet.Declaration.{Declaration}
use Rattle.css_components.specs.Components.{head, name_of, is_ident, is_colon, is_bang, is_braces, is_custom, is_keyword}
use Rattle.css_components.specs.Trimming.{trimmed, trimmed_start}
use Rattle.css_rules.specs.Cuts.{Cut, cuts_at}

-- a custom property keeps its name, any other is in lower case
abbrev pub property_name : List ℕ → List ℕ
property_name name = if is_custom name then name else str_to_ascii_lowercase name

-- what follows a colon, where there is one at the front
abbrev pub after_colon : List Component → Option (List Component)
after_colon [] = None
after_colon (c ∷ cs) = if is_colon c then Some cs else None

-- Only a custom property may be empty or hold a `{}` block at its top level.
abbrev pub may_be_value : Bool → List Component → Bool
may_be_value custom [] = custom
may_be_value custom (c ∷ cs) = custom || not (list_any is_braces (c ∷ cs))

-- is this the keyword `important` alone?
abbrev pub is_important : List Component → Bool
is_important [] = false
is_important (c ∷ []) = is_ident c && is_keyword (codes "important") (name_of (head c))
is_important (c ∷ d ∷ cs) = false

-- What stands behind the colon, cut at each `!`: a value, or a value and the mark of importance, and no further `!`.
abbrev pub value_of : List Cut → Option (List Component × Bool)
value_of [] = None
value_of (value ∷ []) = Some (trimmed value.front, false)
value_of (value ∷ mark ∷ []) = if is_important (trimmed mark.front) then Some (trimmed value.front, true) else None
value_of (value ∷ mark ∷ more ∷ cuts) = None

-- the declaration of this name and this value, where there is a value that the property may have
abbrev pub declared : Piece → Option (List Component × Bool) → Option Declaration
declared name None = None
declared name (Some value) =
    if may_be_value (is_custom (name_of name)) value.0
    then Some (record { name = property_name (name_of name); value = value.0; important = value.1; at = name.at })
    else None

-- the declaration of this name whose value stands in what is behind the colon, where there is a colon
abbrev pub declared_after : Piece → Option (List Component) → Option Declaration
declared_after name None = None
declared_after name (Some tail) = declared name (value_of (cuts_at is_bang tail))

-- The declaration that these components spell: an Ident, a colon, a value, and perhaps `!important`. The first component is its name.
abbrev pub declaration_of : List Component → Option Declaration
declaration_of [] = None
declaration_of (c ∷ cs) = if is_ident c then declared_after (head c) (after_colon (trimmed_start cs)) else None

-- does it begin with the name of a custom property and a colon?
abbrev pub begins_custom : List Component → Bool
begins_custom [] = false
begins_custom (c ∷ cs) = is_ident c && (is_custom (name_of (head c)) && is_some (after_colon (trimmed_start cs)))
