-- The components that the printed text of a value is made of (CSS Syntax 3, sections 5 and 10).
use Rattle.std.specs.Prelude.{List, map, Bool, false, not, codes, ◌≡◌}
use Rattle.std.proofs.Common.{◌∙◌, ap}
use Rattle.css_tokens.specs.declared.kind.Kind.{Kind}
use Rattle.css_tokens.specs.declared.kind.Kind.TheVariants.{Comment}
use Rattle.css_tokens.specs.declared.component.Component.{Component}
use Rattle.css_tokens.specs.declared.component.Component as component
use Rattle.css_tokens.specs.declared.component.Block as block
use Rattle.css_tokens.specs.declared.component.Component.TheOpen.{Component-F, Single, Block, Block-F}
use Rattle.css_tokens.specs.declared.component.Component.TheFolds.{fold-Component, fold_out-Component}
use Rattle.css_tokens.specs.declared.component.Component.TheVariants.{outs-Single, outs-Block}
use Rattle.css_tokens.specs.Piece.{Piece, word_of}
use Rattle.css_tokens.specs.Values.{is_gap, short_text, single_gaps, after_gap, before_gap, parted, takes_space}

-- the kind of the first token of a component, from that of its block
abbrev pub component_head : Component-F Kind Kind → Kind
component_head (Single token) = token.kind
component_head (Block kind) = kind

-- the kind of the opening token of a block
abbrev pub block_head : Block-F Kind Kind → Kind
block_head b = b.opening.kind

-- the kind of the first token of a component
abbrev pub head_kind : Component → Kind
head_kind = fold-Component Kind Kind component_head block_head

-- is the component neither white space nor a comment?
abbrev pub is_solid : Component → Bool
is_solid c = not (is_gap (head_kind c))

-- the token with white space as one space, and a comment as `/**/`
abbrev pub short_piece : Piece → Piece
short_piece p = record { kind = p.kind; text = short_text p.kind p.text; at = p.at }

-- the component with its white space and comments short, from what is made of its block
abbrev pub component_shortened : Component-F Component block.Block → Component
component_shortened (Single token) = component.Single (short_piece token)
component_shortened (Block b) = component.Block b

-- the block with each run of white space and comments in it as one of them
abbrev pub block_shortened : Block-F Component block.Block → block.Block
block_shortened b = record { opening = b.opening; items = single_gaps head_kind b.items; close = b.close }

-- the component with its white space and comments short, and each run of them in its blocks as one
abbrev pub shortened : Component → Component
shortened = fold-Component Component block.Block component_shortened block_shortened

-- the components with white space and comments short, and each run of them as one
abbrev pub all_shortened : List Component → List Component
all_shortened cs = single_gaps head_kind (map shortened cs)

-- The components of a value with white space and comments short, each run of them as one, and none at either end.
abbrev pub value_shortened : List Component → List Component
value_shortened v = before_gap head_kind (after_gap head_kind (all_shortened v))

abbrev layer_head : Component-F Component block.Block → Kind
layer_head v = component_head (component.map-Component Component block.Block Kind Kind (fold-Component Kind Kind component_head block_head) (block.fold-Block Kind Kind component_head block_head) v)

abbrev layer_shortened : Component-F Component block.Block → Component
layer_shortened v = component_shortened (component.map-Component Component block.Block Component block.Block (fold-Component Component block.Block component_shortened block_shortened) (block.fold-Block Component block.Block component_shortened block_shortened) v)

-- The first token of a single token is that token.
pub head_kind-Single : (p : Piece) → head_kind (component.Single p) ≡ p.kind
head_kind-Single p = fold_out-Component Kind Kind component_head block_head (component.Single p) ∙ ap layer_head (outs-Single p)

-- The first token of a block is its opening token.
pub head_kind-Block : (b : block.Block) → head_kind (component.Block b) ≡ b.opening.kind
head_kind-Block b = fold_out-Component Kind Kind component_head block_head (component.Block b) ∙ ap layer_head (outs-Block b) ∙ block.fold_out-Block Kind Kind component_head block_head b

-- A single token prints as that token, short.
pub shortened-Single : (p : Piece) → shortened (component.Single p) ≡ component.Single (short_piece p)
shortened-Single p = fold_out-Component Component block.Block component_shortened block_shortened (component.Single p) ∙ ap layer_shortened (outs-Single p)

-- A block prints with its brackets and the printed components in it.
pub shortened-Block : (b : block.Block) → shortened (component.Block b) ≡ component.Block (record { opening = b.opening; items = all_shortened b.items; close = b.close })
shortened-Block b = fold_out-Component Component block.Block component_shortened block_shortened (component.Block b) ∙ ap layer_shortened (outs-Block b) ∙ ap component.Block (block.fold_out-Block Component block.Block component_shortened block_shortened b)

-- does the last token of a component take a space, from what is told of its block?
abbrev pub component_takes : Component-F Bool Bool → Bool
component_takes (Single token) = takes_space (word_of token)
component_takes (Block b) = b

-- the closing token of a block takes none
abbrev pub block_takes : Block-F Bool Bool → Bool
block_takes b = false

-- does the last token of the component take a space which follows it?
abbrev pub takes_last : Component → Bool
takes_last = fold-Component Bool Bool component_takes block_takes

-- the comment that parts components
abbrev pub parting : Component
parting = component.Single (record { kind = Comment; text = codes "/**/"; at = 0 })

-- the component with the components of its block parted, from what is made of its block
abbrev pub component_parted : Component-F Component block.Block → Component
component_parted (Single token) = component.Single token
component_parted (Block b) = component.Block b

-- the block with its components parted
abbrev pub block_parted : Block-F Component block.Block → block.Block
block_parted b = record { opening = b.opening; items = parted head_kind parting takes_last b.items; close = b.close }

-- the component with the components in its blocks parted
abbrev pub parted_within : Component → Component
parted_within = fold-Component Component block.Block component_parted block_parted

-- the components, and those in their blocks, parted
abbrev pub all_parted : List Component → List Component
all_parted cs = parted head_kind parting takes_last (map parted_within cs)

-- the component as it prints
abbrev pub again : Component → Component
again c = parted_within (shortened c)

-- the components in a block as they print
abbrev pub all_again : List Component → List Component
all_again cs = all_parted (all_shortened cs)

-- The components of a value as it prints: white space and comments short, each run of them as one, none at either end, and
-- a comment before the white space that an escape would take.
abbrev pub value_again : List Component → List Component
value_again v = all_parted (value_shortened v)

abbrev layer_takes : Component-F Component block.Block → Bool
layer_takes v = component_takes (component.map-Component Component block.Block Bool Bool (fold-Component Bool Bool component_takes block_takes) (block.fold-Block Bool Bool component_takes block_takes) v)

abbrev layer_parted : Component-F Component block.Block → Component
layer_parted v = component_parted (component.map-Component Component block.Block Component block.Block (fold-Component Component block.Block component_parted block_parted) (block.fold-Block Component block.Block component_parted block_parted) v)

-- A single token takes a space as its word does.
pub takes_last-Single : (p : Piece) → takes_last (component.Single p) ≡ takes_space (word_of p)
takes_last-Single p = fold_out-Component Bool Bool component_takes block_takes (component.Single p) ∙ ap layer_takes (outs-Single p)

-- A block takes none.
pub takes_last-Block : (b : block.Block) → takes_last (component.Block b) ≡ false
takes_last-Block b = fold_out-Component Bool Bool component_takes block_takes (component.Block b) ∙ ap layer_takes (outs-Block b) ∙ block.fold_out-Block Bool Bool component_takes block_takes b

-- A single token stays as it is.
pub parted_within-Single : (p : Piece) → parted_within (component.Single p) ≡ component.Single p
parted_within-Single p = fold_out-Component Component block.Block component_parted block_parted (component.Single p) ∙ ap layer_parted (outs-Single p)

-- A block keeps its brackets, with the components in it parted.
pub parted_within-Block : (b : block.Block) → parted_within (component.Block b) ≡ component.Block (record { opening = b.opening; items = all_parted b.items; close = b.close })
parted_within-Block b = fold_out-Component Component block.Block component_parted block_parted (component.Block b) ∙ ap layer_parted (outs-Block b) ∙ ap component.Block (block.fold_out-Block Component block.Block component_parted block_parted b)

-- A single token prints as that token, short.
pub again-Single : (p : Piece) → again (component.Single p) ≡ component.Single (short_piece p)
again-Single p = ap parted_within (shortened-Single p) ∙ parted_within-Single (short_piece p)

-- A block prints with its brackets and the printed components in it.
pub again-Block : (b : block.Block) → again (component.Block b) ≡ component.Block (record { opening = b.opening; items = all_again b.items; close = b.close })
again-Block b = ap parted_within (shortened-Block b) ∙ parted_within-Block (record { opening = b.opening; items = all_shortened b.items; close = b.close })
