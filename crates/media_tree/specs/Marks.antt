-- What single component values are to the grammar of media features and declarations (CSS Syntax 3, sections 4 and 5).
use Rattle.std.specs.Prelude.{ℕ, List, [], ◌∷◌, Bool, true, false, not, codes, take, length, unwrap_or, Option, Some, None, if◌then◌else◌}
use Rattle.std.specs.List.{list_all, list_any, position}
use Rattle.std.specs.Str.{str_to_ascii_lowercase}
use Rattle.css_tokens.specs.declared.kind.Kind.{Kind}
use Rattle.css_tokens.specs.declared.kind.Kind.TheVariants as kinds
use Rattle.css_tokens.specs.declared.component.Component.{Component, out-Component}
use Rattle.css_tokens.specs.declared.component.Component.TheOpen.{Component-F, Single, Block}
use Rattle.css_tokens.specs.declared.component.Block as block
use Rattle.css_tokens.specs.Names.{name_of_word}
use Rattle.css_tokens.specs.Trees.{is_text}
use Rattle.media_tree.specs.declared.mark.Mark.{Mark}
use Rattle.media_tree.specs.declared.mark.Mark.TheVariants as marks

-- a component, laid open: a token, or a block of components
abbrev pub Layer : Type 0
Layer = Component-F Component block.Block

-- the mark of a Delim
abbrev pub delim_mark : List ℕ → Mark
delim_mark text =
    if is_text text (codes "<") then marks.Less
    else (if is_text text (codes ">") then marks.Greater
    else (if is_text text (codes "=") then marks.Equals
    else (if is_text text (codes "/") then marks.Slash
    else (if is_text text (codes "!") then marks.Bang
    else marks.Other))))

-- the mark of a token
abbrev pub token_mark : Kind → List ℕ → Mark
token_mark kinds.White text = marks.White
token_mark kinds.Comment text = marks.Comment
token_mark kinds.Colon text = marks.Colon
token_mark kinds.Semicolon text = marks.Semicolon
token_mark kinds.Delim text = delim_mark text
token_mark k text = marks.Other

-- is it the kind of a `(`, `[` or `{`, and no Function?
abbrev pub is_open_kind : Kind → Bool
is_open_kind kinds.Open = true
is_open_kind k = false

-- the mark of a block: of `{}` blocks alone
abbrev pub block_mark : List ℕ → Mark
block_mark text = if is_text text (codes "{") then marks.Braces else marks.Other

-- the mark of a component, laid open
abbrev pub layer_mark : Layer → Mark
layer_mark (Single p) = token_mark p.kind p.text
layer_mark (Block b) = block_mark b.opening.text

-- the mark of a component
abbrev pub mark_of : Component → Mark
mark_of c = layer_mark (out-Component c)

-- white space or a comment?
abbrev pub is_gap_mark : Mark → Bool
is_gap_mark marks.White = true
is_gap_mark marks.Comment = true
is_gap_mark m = false

-- white space or a comment
abbrev pub is_gap : Component → Bool
is_gap c = is_gap_mark (mark_of c)

-- is it white space?
abbrev pub is_white_mark : Mark → Bool
is_white_mark marks.White = true
is_white_mark m = false

-- white space
abbrev pub is_white : Component → Bool
is_white c = is_white_mark (mark_of c)

-- without white space and comments at the start
abbrev pub trimmed_start : List Component → List Component
trimmed_start [] = []
trimmed_start (c ∷ cs) = if is_gap c then trimmed_start cs else c ∷ cs

-- without white space and comments at the end
abbrev pub trimmed_end : List Component → List Component
trimmed_end [] = []
trimmed_end (c ∷ cs) = if list_all is_gap (c ∷ cs) then [] else c ∷ trimmed_end cs

-- without white space and comments at either end
abbrev pub trimmed : List Component → List Component
trimmed cs = trimmed_end (trimmed_start cs)

-- a name in lower case
abbrev pub lowered : List ℕ → List ℕ
lowered name = str_to_ascii_lowercase name

-- the name of an Ident, its escapes decoded, in lower case
abbrev pub token_name : Kind → List ℕ → Option (List ℕ)
token_name kinds.Ident text = Some (lowered (name_of_word kinds.Ident text))
token_name k text = None

-- the same of a component, laid open
abbrev pub layer_name : Layer → Option (List ℕ)
layer_name (Single p) = token_name p.kind p.text
layer_name (Block b) = None

-- the name of a component that is an Ident, in lower case
abbrev pub ident_name : Component → Option (List ℕ)
ident_name c = layer_name (out-Component c)
