-- What the tests say of a token alone and of a block.
use Rattle.std.proofs.Common.{◌≡◌, ℕ, List, [], ◌∷◌, false, ◌&&◌, not, ◌∙◌, ap, codes}
use Rattle.css_tokens.specs.declared.component.Component.{Component, out-Component}
use Rattle.css_tokens.specs.declared.component.Component as component
use Rattle.css_tokens.specs.declared.component.Block as block
use Rattle.css_tokens.specs.declared.component.Component.TheVariants.{outs-Single, outs-Block}
use Rattle.css_tokens.specs.declared.component.Component.TheOpen.{Component-F, Single}
use Rattle.css_tokens.specs.declared.component.Component.TheFolds.{fold-Component, fold_out-Component}
use Rattle.css_tokens.specs.declared.kind.Kind.{Kind}
use Rattle.css_tokens.specs.Piece.{Piece, Word}
use Rattle.css_tokens.specs.Trees.{is_text, pieces_of, component_pieces, block_pieces}
use Rattle.css_tokens.specs.Values.{is_gap as is_gap_kind}
pub use Rattle.sheet_types.proofs.PlacesTrees.{piece_of}
use Rattle.css_components.specs.Components.{layer_head, layer_is_single, layer_items, head, inside, is_gap, is_ident, is_at_keyword, is_colon, is_semicolon, is_bang, is_braces, is_ident_kind, is_at_kind, is_colon_kind, is_semicolon_kind, is_delim_kind, is_comma, is_comma_kind}

-- the word of this kind and this text
abbrev pub word : Kind → List ℕ → Word
word kind text = record { kind = kind; text = text }

-- a word as a component, at the place 0
abbrev pub single_of : Word → Component
single_of w = component.Single (record { kind = w.kind; text = w.text; at = 0 })

pub head-Single : (p : Piece) → head (component.Single p) ≡ p
head-Single p = ap layer_head (outs-Single p)

pub head-Block : (b : block.Block) → head (component.Block b) ≡ b.opening
head-Block b = ap layer_head (outs-Block b)

pub inside-Block : (b : block.Block) → inside (component.Block b) ≡ b.items
inside-Block b = ap layer_items (outs-Block b)

pub gap-Single : (p : Piece) → is_gap (component.Single p) ≡ is_gap_kind p.kind
gap-Single p = ap (λ v. layer_is_single v && is_gap_kind (layer_head v).kind) (outs-Single p)

pub gap-Block : (b : block.Block) → is_gap (component.Block b) ≡ false
gap-Block b = ap (λ v. layer_is_single v && is_gap_kind (layer_head v).kind) (outs-Block b)

pub comma-Single : (p : Piece) → is_comma (component.Single p) ≡ is_comma_kind p.kind
comma-Single p = ap (λ v. layer_is_single v && is_comma_kind (layer_head v).kind) (outs-Single p)

pub ident-Single : (p : Piece) → is_ident (component.Single p) ≡ is_ident_kind p.kind
ident-Single p = ap (λ v. layer_is_single v && is_ident_kind (layer_head v).kind) (outs-Single p)

pub ident-Block : (b : block.Block) → is_ident (component.Block b) ≡ false
ident-Block b = ap (λ v. layer_is_single v && is_ident_kind (layer_head v).kind) (outs-Block b)

pub at-Single : (p : Piece) → is_at_keyword (component.Single p) ≡ is_at_kind p.kind
at-Single p = ap (λ v. layer_is_single v && is_at_kind (layer_head v).kind) (outs-Single p)

pub at-Block : (b : block.Block) → is_at_keyword (component.Block b) ≡ false
at-Block b = ap (λ v. layer_is_single v && is_at_kind (layer_head v).kind) (outs-Block b)

pub colon-Single : (p : Piece) → is_colon (component.Single p) ≡ is_colon_kind p.kind
colon-Single p = ap (λ v. layer_is_single v && is_colon_kind (layer_head v).kind) (outs-Single p)

pub semicolon-Single : (p : Piece) → is_semicolon (component.Single p) ≡ is_semicolon_kind p.kind
semicolon-Single p = ap (λ v. layer_is_single v && is_semicolon_kind (layer_head v).kind) (outs-Single p)

pub semicolon-Block : (b : block.Block) → is_semicolon (component.Block b) ≡ false
semicolon-Block b = ap (λ v. layer_is_single v && is_semicolon_kind (layer_head v).kind) (outs-Block b)

pub bang-Single : (p : Piece) → is_bang (component.Single p) ≡ (is_delim_kind p.kind && is_text p.text (codes "!"))
bang-Single p = ap (λ v. layer_is_single v && (is_delim_kind (layer_head v).kind && is_text (layer_head v).text (codes "!"))) (outs-Single p)

pub bang-Block : (b : block.Block) → is_bang (component.Block b) ≡ false
bang-Block b = ap (λ v. layer_is_single v && (is_delim_kind (layer_head v).kind && is_text (layer_head v).text (codes "!"))) (outs-Block b)

pub braces-Single : (p : Piece) → is_braces (component.Single p) ≡ false
braces-Single p = ap (λ v. not (layer_is_single v) && is_text (layer_head v).text (codes "{")) (outs-Single p)

pub braces-Block : (b : block.Block) → is_braces (component.Block b) ≡ is_text b.opening.text (codes "{")
braces-Block b = ap (λ v. not (layer_is_single v) && is_text (layer_head v).text (codes "{")) (outs-Block b)

abbrev layer_pieces : Component-F Component block.Block → List Piece
layer_pieces v = component_pieces (component.map-Component Component block.Block (List Piece) (List Piece) (fold-Component (List Piece) (List Piece) component_pieces block_pieces) (block.fold-Block (List Piece) (List Piece) component_pieces block_pieces) v)

-- the tokens of a token alone
pub single-piece : (c : Component) (p : Piece) → out-Component c ≡ Single p → pieces_of c ≡ p ∷ []
single-piece c p e = fold_out-Component (List Piece) (List Piece) component_pieces block_pieces c ∙ ap layer_pieces e
