-- Component values (CSS Syntax 3, section 5), and the tokens that they are made of.
use Rattle.std.specs.Prelude.{ℕ, List, [], ◌∷◌, ◌++◌, flat_map, map, ◌≡◌, Bool, true, false, ◌&&◌, codes, not, if◌then◌else◌, nat_eq}
use Rattle.std.specs.List.{list_all}
use Rattle.std.proofs.Common.{◌∙◌, ap}
use Rattle.std.proofs.lemmas.List.Folds.{flat_map-map, list_all-map}
use lib.Pointwise.{pointwise}
use Rattle.css_tokens.specs.declared.kind.Kind.{Kind}
use Rattle.css_tokens.specs.declared.kind.Kind.TheVariants.{White, Comment, Ident, Function, Url, At, Hash, String, Number, Percentage, Dimension, Colon, Semicolon, Comma, Open, Close, Delim, Cdo, Cdc}
use Rattle.css_tokens.specs.declared.component.Component.{Component, out-Component}
use Rattle.css_tokens.specs.declared.component.Component as component
use Rattle.css_tokens.specs.declared.component.Block as block
use Rattle.css_tokens.specs.declared.component.Component.TheOpen.{Component-F, Single, Block, Block-F}
use Rattle.css_tokens.specs.declared.component.Component.TheFolds.{fold-Component, fold_out-Component}
use Rattle.css_tokens.specs.declared.component.Component.TheVariants.{outs-Single, outs-Block}
use Rattle.css_tokens.specs.Piece.{Piece, Word, word_of}

-- is this text that one?
abbrev pub is_text : List ℕ → List ℕ → Bool
is_text a b = pointwise nat_eq a b

-- does a token of this kind open a block?
abbrev pub opens : Kind → Bool
opens Open = true
opens Function = true
opens White = false
opens Comment = false
opens Ident = false
opens Url = false
opens At = false
opens Hash = false
opens String = false
opens Number = false
opens Percentage = false
opens Dimension = false
opens Colon = false
opens Semicolon = false
opens Comma = false
opens Close = false
opens Delim = false
opens Cdo = false
opens Cdc = false

-- does a token of this kind close one?
abbrev pub closes : Kind → Bool
closes Close = true
closes White = false
closes Comment = false
closes Ident = false
closes Function = false
closes Url = false
closes At = false
closes Hash = false
closes String = false
closes Number = false
closes Percentage = false
closes Dimension = false
closes Colon = false
closes Semicolon = false
closes Comma = false
closes Open = false
closes Delim = false
closes Cdo = false
closes Cdc = false

-- the text that closes what a token of this text opens: `[` by `]`, `{` by `}`, and `(` or a Function by `)`
abbrev pub closing_text : List ℕ → List ℕ
closing_text opening = if is_text opening (codes "[") then codes "]" else (if is_text opening (codes "{") then codes "}" else codes ")")

-- the token that closes a block
abbrev pub closing : Piece → ℕ → Piece
closing opening at = record { kind = Close; text = closing_text opening.text; at = at }

-- the tokens of a component in order, from those of its block
abbrev pub component_pieces : Component-F (List Piece) (List Piece) → List Piece
component_pieces (Single token) = token ∷ []
component_pieces (Block pieces) = pieces

-- the tokens of a block in order, from those of the components in it: its opening token, theirs, and its closing token
abbrev pub block_pieces : Block-F (List Piece) (List Piece) → List Piece
block_pieces b = b.opening ∷ flat_map (λ pieces. pieces) b.items ++ closing b.opening b.close ∷ []

-- the tokens of a component in order, its blocks opened out
abbrev pub pieces_of : Component → List Piece
pieces_of = fold-Component (List Piece) (List Piece) component_pieces block_pieces

-- the tokens of a list of components
abbrev pub pieces_all : List Component → List Piece
pieces_all cs = flat_map pieces_of cs

-- the tokens of a list of components, without places
abbrev pub words_all : List Component → List Word
words_all cs = map word_of (pieces_all cs)

-- is the component a single token that neither opens nor closes, or a well formed block?
abbrev pub component_formed : Component-F Bool Bool → Bool
component_formed (Single token) = not (opens token.kind) && not (closes token.kind)
component_formed (Block formed) = formed

-- does the block begin with a token that opens, and is all in it well formed?
abbrev pub block_formed : Block-F Bool Bool → Bool
block_formed b = opens b.opening.kind && list_all (λ formed. formed) b.items

-- is the component well formed: each single token neither opens nor closes, and each block begins with a token that opens?
abbrev pub is_formed : Component → Bool
is_formed = fold-Component Bool Bool component_formed block_formed

-- are all of these components well formed?
abbrev pub all_formed : List Component → Bool
all_formed cs = list_all is_formed cs

abbrev layer_pieces : Component-F Component block.Block → List Piece
layer_pieces v = component_pieces (component.map-Component Component block.Block (List Piece) (List Piece) (fold-Component (List Piece) (List Piece) component_pieces block_pieces) (block.fold-Block (List Piece) (List Piece) component_pieces block_pieces) v)

-- The tokens of a single token are that token.
pub pieces_of-Single : (p : Piece) → pieces_of (component.Single p) ≡ p ∷ []
pieces_of-Single p = fold_out-Component (List Piece) (List Piece) component_pieces block_pieces (component.Single p) ∙ ap layer_pieces (outs-Single p)

-- The tokens of a block are its opening token, those of its components, and its closing token.
pub pieces_of-Block : (b : block.Block) → pieces_of (component.Block b) ≡ b.opening ∷ pieces_all b.items ++ closing b.opening b.close ∷ []
pieces_of-Block b = fold_out-Component (List Piece) (List Piece) component_pieces block_pieces (component.Block b) ∙ ap layer_pieces (outs-Block b) ∙ block.fold_out-Block (List Piece) (List Piece) component_pieces block_pieces b ∙ ap (λ inner. b.opening ∷ inner ++ closing b.opening b.close ∷ []) (flat_map-map (λ pieces. pieces) pieces_of b.items)

abbrev layer_formed : Component-F Component block.Block → Bool
layer_formed v = component_formed (component.map-Component Component block.Block Bool Bool (fold-Component Bool Bool component_formed block_formed) (block.fold-Block Bool Bool component_formed block_formed) v)

-- A single token is well formed where it neither opens nor closes.
pub is_formed-Single : (p : Piece) → is_formed (component.Single p) ≡ (not (opens p.kind) && not (closes p.kind))
is_formed-Single p = fold_out-Component Bool Bool component_formed block_formed (component.Single p) ∙ ap layer_formed (outs-Single p)

-- A block is well formed where its first token opens and its components are well formed.
pub is_formed-Block : (b : block.Block) → is_formed (component.Block b) ≡ (opens b.opening.kind && all_formed b.items)
is_formed-Block b = fold_out-Component Bool Bool component_formed block_formed (component.Block b) ∙ ap layer_formed (outs-Block b) ∙ block.fold_out-Block Bool Bool component_formed block_formed b ∙ ap (λ r. opens b.opening.kind && r) (list_all-map (λ formed. formed) is_formed b.items)
