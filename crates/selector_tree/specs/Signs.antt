-- What component values are to the grammar of selectors (Selectors 4, section 18, Grammar).
use Rattle.std.specs.Prelude.{ℕ, List, [], ◌∷◌, ◌++◌, map, Bool, true, false, codes, Option, Some, None, is_none, if◌then◌else◌, Result, Ok, Err, ◌≡◌, ◌&&◌}
use Rattle.std.specs.List.{list_all}
use Rattle.std.specs.Option.{option_and_then, option_map}
use Rattle.std.proofs.Common.{◌∙◌, ap}
use Rattle.css_tokens.specs.declared.kind.Kind.{Kind}
use Rattle.css_tokens.specs.declared.kind.Kind.TheVariants as kinds
use Rattle.css_tokens.specs.declared.component.Component.{Component}
use Rattle.css_tokens.specs.declared.component.Component as component
use Rattle.css_tokens.specs.declared.component.Block as block
use Rattle.css_tokens.specs.declared.component.Component.TheOpen.{Component-F, Single, Block, Block-F}
use Rattle.css_tokens.specs.declared.component.Component.TheFolds.{fold-Component, fold_out-Component}
use Rattle.css_tokens.specs.declared.component.Component.TheVariants.{outs-Single, outs-Block}
use Rattle.css_tokens.specs.Names.{name_of_word}
use Rattle.css_tokens.specs.NameText.{name_text}
use Rattle.css_tokens.specs.Piece.{Piece}
use Rattle.css_tokens.specs.Trees.{is_text}
use Rattle.selector_types.specs.declared.selector.Attribute.{Attribute}
use Rattle.selector_types.specs.declared.selector.Combinator.TheVariants as combinators
use Rattle.selector_types.specs.declared.selector.Compound.{Compound}
use Rattle.selector_types.specs.declared.selector.Link as link
use Rattle.selector_types.specs.declared.selector.Selector.{Selector}
use Rattle.selector_types.specs.declared.selector.Simple.{Simple}
use Rattle.selector_types.specs.declared.selector.Simple as simple
use Rattle.selector_tree.specs.declared.sign.Callee.{Callee}
use Rattle.selector_tree.specs.declared.sign.Callee.TheVariants as callees
use Rattle.selector_tree.specs.declared.sign.Sign.{Sign}
use Rattle.selector_tree.specs.declared.sign.Sign.TheVariants as signs
use Rattle.selector_tokens.specs.Arguments.{attribute_of, lone_name, an_plus_b}
use Rattle.selector_tree.specs.Grammar.{Mark, marks_reading}
use Rattle.selector_types.specs.Names.{is_id, lowered}

-- Tokens.

-- the sign of a Hash of this text and this name: an id where what stands behind `#` spells an identifier
abbrev pub id_sign : List ℕ → List ℕ → ℕ → Sign
id_sign text name at = if is_id text then signs.Whole (simple.Id name) at else signs.Other

-- the sign of a Delim of this text
abbrev pub delim_sign : List ℕ → ℕ → Sign
delim_sign text at =
    if is_text text (codes ">") then signs.Joint combinators.Child
    else (if is_text text (codes "+") then signs.Joint combinators.Next
    else (if is_text text (codes "~") then signs.Joint combinators.Later
    else (if is_text text (codes "*") then signs.Star
    else (if is_text text (codes ".") then signs.Dot at
    else (if is_text text (codes "&") then signs.Whole simple.Parent at
    else signs.Other)))))

-- the sign of a token of this kind
abbrev pub kind_sign : Kind → List ℕ → ℕ → Sign
kind_sign kinds.Comment text at = signs.Comment
kind_sign kinds.White text at = signs.White
kind_sign kinds.Ident text at = signs.Name (name_of_word kinds.Ident text)
kind_sign kinds.Hash text at = id_sign text (name_of_word kinds.Hash text) at
kind_sign kinds.Delim text at = delim_sign text at
kind_sign kinds.Colon text at = signs.Colon at
kind_sign kinds.Comma text at = signs.Comma
kind_sign k text at = signs.Other

-- Blocks. What stands in one is known by its marks.

-- is it a comment?
abbrev pub is_comment_kind : Kind → Bool
is_comment_kind kinds.Comment = true
is_comment_kind k = false

-- the tokens with one more in front; none with a block, and a comment counts as nothing
abbrev pub token_before : Option Piece → Option (List Piece) → Option (List Piece)
token_before None ps = None
token_before (Some p) ps = if is_comment_kind p.kind then ps else option_map (λ qs. p ∷ qs) ps

-- the tokens without comments, where there is no block
abbrev pub tokens_of : List Mark → Option (List Piece)
tokens_of [] = Some []
tokens_of (m ∷ ms) = token_before m.token (tokens_of ms)

-- the selectors of a list, where each member is one
abbrev pub read : Result (List Selector) ℕ → Option (List Selector)
read (Err place) = None
read (Ok ss) = Some ss

-- a list of selectors, none of which begins with a combinator
abbrev pub list_in : List Mark → Option (List Selector)
list_in ms = read (marks_reading false ms 0)

-- white space or a comment?
abbrev pub is_gap_kind : Kind → Bool
is_gap_kind kinds.White = true
is_gap_kind kinds.Comment = true
is_gap_kind k = false

-- is it white space or a comment, and no block?
abbrev pub is_gap : Option Piece → Bool
is_gap None = false
is_gap (Some p) = is_gap_kind p.kind

-- such a list, or nothing
abbrev pub forgiving_list : List Mark → Option (List Selector)
forgiving_list ms = if list_all (λ m. is_gap m.token) ms then Some [] else list_in ms

-- is there no link?
abbrev pub has_no_link : List link.Link → Bool
has_no_link [] = true
has_no_link (l ∷ ls) = false

-- the compound of a list of one selector that is one compound without a pseudo-element
abbrev pub lone_compound : List Selector → Option Compound
lone_compound (s ∷ []) = if is_none s.first.tail && has_no_link s.rest then Some s.first else None
lone_compound ss = None

-- such a compound
abbrev pub compound_in : List Mark → Option Compound
compound_in ms = option_and_then lone_compound (list_in ms)

-- the pseudo-class of this name with this argument
abbrev pub with_argument : List ℕ → List ℕ → Simple
with_argument name argument = simple.Pseudo (name ++ (codes "(" ++ (argument ++ codes ")")))

-- the same where there is an argument of its kind, and else a foreign one
abbrev pub argued : List ℕ → Option (List ℕ) → Simple
argued name None = simple.Foreign
argued name (Some argument) = with_argument name argument

-- what a Function of this name begins behind a colon
abbrev pub callee_of : List ℕ → Callee
callee_of name =
    if is_text name (codes "not") then callees.Not
    else (if is_text name (codes "is") then callees.Is
    else (if is_text name (codes "where") then callees.Where
    else (if is_text name (codes "local") then callees.Local
    else (if is_text name (codes "global") then callees.Global
    else (if is_text name (codes "nth-child") then callees.Step
    else (if is_text name (codes "nth-last-child") then callees.Step
    else (if is_text name (codes "nth-of-type") then callees.Step
    else (if is_text name (codes "nth-last-of-type") then callees.Step
    else (if is_text name (codes "lang") then callees.Lang
    else callees.Other)))))))))

-- does it take selectors?
abbrev pub takes_list : Callee → Bool
takes_list callees.Step = false
takes_list callees.Lang = false
takes_list callees.Other = false
takes_list callee = true

-- the simple selector that such a Function is, where it is one
abbrev pub call_by : Callee → List ℕ → List Mark → Option Simple
call_by callees.Not name ms = option_map (λ ss. simple.Not ss) (list_in ms)
call_by callees.Is name ms = option_map (λ ss. simple.Is ss) (forgiving_list ms)
call_by callees.Where name ms = option_map (λ ss. simple.Where ss) (forgiving_list ms)
call_by callees.Local name ms = option_map (λ k. simple.Local k) (compound_in ms)
call_by callees.Global name ms = option_map (λ k. simple.Global k) (compound_in ms)
call_by callees.Step name ms = Some (argued name (option_and_then an_plus_b (tokens_of ms)))
call_by callees.Lang name ms = Some (argued name (option_map name_text (option_and_then lone_name (tokens_of ms))))
call_by callees.Other name ms = Some simple.Foreign

-- the simple selector that a Function of this name is behind a colon, where it is one
abbrev pub call_of : List ℕ → List Mark → Option Simple
call_of name ms = call_by (callee_of name) name ms

-- An attribute selector in `[]`.
abbrev pub attribute_sign : ℕ → Option Attribute → Sign
attribute_sign at None = signs.Other
attribute_sign at (Some a) = signs.Whole (simple.Attribute a) at

-- the sign of a block, by the kind of the token that opens it
abbrev pub opened_sign : Kind → List ℕ → ℕ → List Mark → Sign
opened_sign kinds.Function text at ms = signs.Call (call_of (lowered (name_of_word kinds.Function text)) ms)
opened_sign kinds.Open text at ms = if is_text text (codes "[") then attribute_sign at (option_and_then attribute_of (tokens_of ms)) else signs.Other
opened_sign k text at ms = signs.Other

-- Component values.

-- what a token is to the grammar
abbrev pub token_mark : Piece → Mark
token_mark p = record { token = Some p; at = p.at; sign = kind_sign p.kind p.text p.at }

-- what a block is to the grammar, by the token that opens it and what is in it
abbrev pub block_mark : Piece → List Mark → Mark
block_mark opening ms = record { token = None; at = opening.at; sign = opened_sign opening.kind opening.text opening.at ms }

-- the same of a component, from that of its block
abbrev pub component_mark : Component-F Mark Mark → Mark
component_mark (Single p) = token_mark p
component_mark (Block m) = m

-- the same of a block, from those of the components in it
abbrev pub marked_block : Block-F Mark Mark → Mark
marked_block b = block_mark b.opening b.items

-- what a component value is to the grammar
abbrev pub mark_of : Component → Mark
mark_of = fold-Component Mark Mark component_mark marked_block

-- The selectors that component values spell between commas, or the place of the first member that spells none.
abbrev pub list_reading : Bool → List Component → ℕ → Result (List Selector) ℕ
list_reading nested cs end = marks_reading nested (map mark_of cs) end

abbrev layer_mark : Component-F Component block.Block → Mark
layer_mark v = component_mark (component.map-Component Component block.Block Mark Mark (fold-Component Mark Mark component_mark marked_block) (block.fold-Block Mark Mark component_mark marked_block) v)

-- A token that opens nothing is what its kind and its text say.
pub mark_of-Single : (p : Piece) → mark_of (component.Single p) ≡ token_mark p
mark_of-Single p = fold_out-Component Mark Mark component_mark marked_block (component.Single p) ∙ ap layer_mark (outs-Single p)

-- A block is what the token that opens it and the marks in it say.
pub mark_of-Block : (b : block.Block) → mark_of (component.Block b) ≡ block_mark b.opening (map mark_of b.items)
mark_of-Block b = fold_out-Component Mark Mark component_mark marked_block (component.Block b) ∙ ap layer_mark (outs-Block b) ∙ block.fold_out-Block Mark Mark component_mark marked_block b
