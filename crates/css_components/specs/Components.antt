-- What a component value begins with, and tests of it (CSS Syntax 3, sections 4 and 5).
use Rattle.std.specs.Prelude.{ℕ, List, [], Bool, true, false, ◌&&◌, not, codes, nat_eq}
use Rattle.std.specs.List.{starts_with}
use Rattle.std.specs.Str.{str_to_ascii_lowercase}
use Rattle.css_tokens.specs.declared.kind.Kind.{Kind}
use Rattle.css_tokens.specs.declared.kind.Kind.TheVariants.{Ident, String, At, Colon, Semicolon, Comma, Delim}
use Rattle.css_tokens.specs.declared.component.Component.{Component, out-Component}
use Rattle.css_tokens.specs.declared.component.Component.TheOpen.{Component-F, Single, Block}
use Rattle.css_tokens.specs.declared.component.Block as block
use Rattle.css_tokens.specs.Names.{name_of_word}
use Rattle.css_tokens.specs.Piece.{Piece}
use Rattle.css_tokens.specs.Trees.{is_text}
use Rattle.css_tokens.specs.Values.{is_gap as is_gap_kind}

-- a component, laid open: a token, or a block of components
abbrev pub Layer : Type 0
Layer = Component-F Component block.Block

-- the token itself, or the one that opens the block
abbrev pub layer_head : Layer → Piece
layer_head (Single token) = token
layer_head (Block b) = b.opening

-- the first token of a component
abbrev pub head : Component → Piece
head c = layer_head (out-Component c)

-- is it a token, and no block?
abbrev pub layer_is_single : Layer → Bool
layer_is_single (Single token) = true
layer_is_single (Block b) = false

-- is it a token alone?
abbrev pub is_single : Component → Bool
is_single c = layer_is_single (out-Component c)

-- the components in the block; none where it is a token
abbrev pub layer_items : Layer → List Component
layer_items (Single token) = []
layer_items (Block b) = b.items

-- the components in a block; none in a token alone
abbrev pub inside : Component → List Component
inside c = layer_items (out-Component c)

-- how many bytes of the source stand before a component
abbrev pub place_of : Component → ℕ
place_of c = (head c).at

-- the name of a token, its escapes decoded
abbrev pub name_of : Piece → List ℕ
name_of token = name_of_word token.kind token.text

-- a comma?
abbrev pub is_comma_kind : Kind → Bool
is_comma_kind Comma = true
is_comma_kind _ = false

-- an identifier?
abbrev pub is_ident_kind : Kind → Bool
is_ident_kind Ident = true
is_ident_kind _ = false

-- an at-keyword?
abbrev pub is_at_kind : Kind → Bool
is_at_kind At = true
is_at_kind _ = false

-- a string?
abbrev pub is_string_kind : Kind → Bool
is_string_kind String = true
is_string_kind _ = false

-- a colon?
abbrev pub is_colon_kind : Kind → Bool
is_colon_kind Colon = true
is_colon_kind _ = false

-- a semicolon?
abbrev pub is_semicolon_kind : Kind → Bool
is_semicolon_kind Semicolon = true
is_semicolon_kind _ = false

-- a Delim?
abbrev pub is_delim_kind : Kind → Bool
is_delim_kind Delim = true
is_delim_kind _ = false

-- white space or a comment
abbrev pub is_gap : Component → Bool
is_gap c = is_single c && is_gap_kind (head c).kind

-- a comma
abbrev pub is_comma : Component → Bool
is_comma c = is_single c && is_comma_kind (head c).kind

-- an identifier
abbrev pub is_ident : Component → Bool
is_ident c = is_single c && is_ident_kind (head c).kind

-- a string
abbrev pub is_string : Component → Bool
is_string c = is_single c && is_string_kind (head c).kind

-- an at-keyword
abbrev pub is_at_keyword : Component → Bool
is_at_keyword c = is_single c && is_at_kind (head c).kind

-- a colon
abbrev pub is_colon : Component → Bool
is_colon c = is_single c && is_colon_kind (head c).kind

-- a semicolon
abbrev pub is_semicolon : Component → Bool
is_semicolon c = is_single c && is_semicolon_kind (head c).kind

-- the Delim `!`
abbrev pub is_bang : Component → Bool
is_bang c = is_single c && (is_delim_kind (head c).kind && is_text (head c).text (codes "!"))

-- a `{}` block
abbrev pub is_braces : Component → Bool
is_braces c = not (is_single c) && is_text (head c).text (codes "{")

-- a name that begins with `--`
abbrev pub is_custom : List ℕ → Bool
is_custom name = starts_with nat_eq name (codes "--")

-- is the name this keyword, in any case of letters?
abbrev pub is_keyword : List ℕ → List ℕ → Bool
is_keyword keyword name = is_text (str_to_ascii_lowercase name) keyword
