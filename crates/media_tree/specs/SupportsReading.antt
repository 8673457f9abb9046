-- Supports conditions as they are read (Conditional Rules 3, section 6).
use Rattle.std.specs.Prelude.{ℕ, List, [], ◌∷◌, map, Bool, true, false, not, ◌&&◌, ◌||◌, codes, length, Option, Some, None, if◌then◌else◌, nat_eq}
use Rattle.std.specs.List.{list_any, starts_with}
use Rattle.std.specs.Option.{option_or}
use Rattle.css_tokens.specs.declared.kind.Kind.{Kind}
use Rattle.css_tokens.specs.declared.kind.Kind.TheVariants as kinds
use Rattle.css_tokens.specs.declared.component.Component.{Component, out-Component}
use Rattle.css_tokens.specs.declared.component.Component.TheOpen.{Component-F, Single, Block}
use Rattle.css_tokens.specs.declared.component.Block as block
use Rattle.css_tokens.specs.Names.{name_of_word}
use Rattle.css_tokens.specs.Trees.{is_text}
use Rattle.media_tree.specs.declared.mark.Mark.{Mark}
use Rattle.media_tree.specs.declared.mark.Mark.TheVariants as marks
use Rattle.media_tree.specs.declared.sign.Sign.{Sign}
use Rattle.media_tree.specs.declared.sign.Sign.TheVariants.{Other, Within}
use Rattle.media_spelling.specs.declared.supports.Supports.{Supports}
use Rattle.media_spelling.specs.declared.supports.Supports as supports
use Rattle.media_tree.specs.ComponentSigns as component_signs
use Rattle.media_tree.specs.Conditions.{Makes, condition_of, solid, token_sign, within}
use Rattle.media_tree.specs.Marks.{Layer, is_open_kind, lowered, mark_of, trimmed, trimmed_start}

-- supports conditions
abbrev pub makes : Makes Supports
makes = record { and_of = λ cs. supports.And cs; or_of = λ cs. supports.Or cs; not_of = λ c. supports.Not c }

-- Declarations (CSS Syntax 3, section 5.4.6).

-- the name of an Ident, its escapes decoded
abbrev pub token_name : Kind → List ℕ → Option (List ℕ)
token_name kinds.Ident text = Some (name_of_word kinds.Ident text)
token_name k text = None

-- the same of a component, laid open
abbrev pub layer_name : Layer → Option (List ℕ)
layer_name (Single p) = token_name p.kind p.text
layer_name (Block b) = None

-- the name of a component that is an Ident
abbrev pub name_of : Component → Option (List ℕ)
name_of c = layer_name (out-Component c)

-- a name that begins with `--`: a custom property (CSS Variables 1, section 2)
abbrev pub is_custom : List ℕ → Bool
is_custom name = starts_with nat_eq name (codes "--")

-- a custom property keeps its name, any other is in lower case
abbrev pub property_name : List ℕ → List ℕ
property_name name = if is_custom name then name else lowered name

-- is it a `!` or a semicolon, which no value holds outside blocks?
abbrev pub is_barred_mark : Mark → Bool
is_barred_mark marks.Bang = true
is_barred_mark marks.Semicolon = true
is_barred_mark m = false

-- a `!` or a semicolon
abbrev pub is_barred : Component → Bool
is_barred c = is_barred_mark (mark_of c)

-- a `{}` block?
abbrev pub is_braces_mark : Mark → Bool
is_braces_mark marks.Braces = true
is_braces_mark m = false

-- a `{}` block
abbrev pub is_braces : Component → Bool
is_braces c = is_braces_mark (mark_of c)

-- is there something, and no `{}` block outside other blocks?
abbrev pub is_plain_value : List Component → Bool
is_plain_value value = if nat_eq (length value) 0 then false else not (list_any is_braces value)

-- Only the value of a custom property may be empty or hold a `{}` block there.
abbrev pub is_own_value : Bool → List Component → Bool
is_own_value custom value = if custom then true else is_plain_value value

-- No value holds a `!` or a semicolon outside blocks.
abbrev pub may_be_value : Bool → List Component → Bool
may_be_value custom value = if list_any is_barred value then false else is_own_value custom value

-- the declaration of this property and this value, where the property may have it
abbrev pub declared : List ℕ → List Component → Option Supports
declared name value = if may_be_value (is_custom name) value then Some (supports.Declared (property_name name) value) else None

-- a colon?
abbrev pub is_colon_mark : Mark → Bool
is_colon_mark marks.Colon = true
is_colon_mark m = false

-- the declaration of this property, from the colon on
abbrev pub declared_from : List ℕ → List Component → Option Supports
declared_from name [] = None
declared_from name (c ∷ cs) = if is_colon_mark (mark_of c) then declared name (trimmed cs) else None

-- the same, where there is a name
abbrev pub declared_by : Option (List ℕ) → List Component → Option Supports
declared_by None cs = None
declared_by (Some name) cs = declared_from name (trimmed_start cs)

-- the declaration that components begin with their name
abbrev pub declaration_from : List Component → Option Supports
declaration_from [] = None
declaration_from (c ∷ cs) = declared_by (name_of c) cs

-- the declaration that these components are: a name, a colon and a value without `!`
abbrev pub declaration_of : List Component → Option Supports
declaration_of cs = declaration_from (trimmed_start cs)

-- Conditions.

-- What stands in parentheses: a condition, or a declaration.
abbrev pub inside_of : List Component → List (Sign Supports) → Option Supports
inside_of cs ws = option_or (condition_of makes (solid ws)) (declaration_of cs)

-- the sign of a block, by the kind of the token that opens it
abbrev pub opened_sign : Kind → block.Block → List (Sign Supports) → Sign Supports
opened_sign kinds.Function b ws = Within (supports.Function b.opening.at)
opened_sign kinds.Open b ws = if is_text b.opening.text (codes "(") then within (inside_of b.items ws) else Other
opened_sign k b ws = Other

-- the sign of a block
abbrev pub block_sign : block.Block → List (Sign Supports) → Sign Supports
block_sign b ws = opened_sign b.opening.kind b ws

-- what a component value is to the grammar of supports conditions
abbrev pub sign_of : Component → Sign Supports
sign_of = component_signs.sign_of token_sign block_sign

-- The supports condition that component values spell, where they spell one.
abbrev pub supports_reading : List Component → Option Supports
supports_reading cs = condition_of makes (solid (map sign_of cs))

-- The supports condition, or else the declaration, that component values spell which stand in parentheses.
abbrev pub supports_inside : List Component → Option Supports
supports_inside cs = inside_of cs (map sign_of cs)
