-- Components and supports conditions with each place at 0.
use Rattle.std.specs.Prelude.{map, ◌≡◌}
use Rattle.std.proofs.Common.{◌∙◌, ap}
use Rattle.css_tokens.specs.declared.component.Component.{Component}
use Rattle.css_tokens.specs.declared.component.Component as component
use Rattle.css_tokens.specs.declared.component.Block as block
use Rattle.css_tokens.specs.declared.component.Component.TheFolds.{fold-Component, fold_out-Component}
use Rattle.css_tokens.specs.declared.component.Component.TheOpen.{Component-F, Single, Block, Block-F}
use Rattle.css_tokens.specs.declared.component.Component.TheVariants.{outs-Single, outs-Block}
use Rattle.css_tokens.specs.Piece.{Piece}
use Rattle.media_spelling.specs.declared.supports.Supports.{Supports}
use Rattle.media_spelling.specs.declared.supports.Supports as supports
use Rattle.media_spelling.specs.SupportsFold.{Steps, folded}

-- a token at 0
abbrev pub placeless : Piece → Piece
placeless p = record { kind = p.kind; text = p.text; at = 0 }

-- a component, from what is made of its block
abbrev pub component_bare : Component-F Component block.Block → Component
component_bare (Single token) = component.Single (placeless token)
component_bare (Block b) = component.Block b

-- a block, from what is made of the components in it
abbrev pub block_bare : Block-F Component block.Block → block.Block
block_bare b = record { opening = placeless b.opening; items = b.items; close = 0 }

-- the component with each place at 0
abbrev pub bare : Component → Component
bare = fold-Component Component block.Block component_bare block_bare

abbrev pub bare_block : block.Block → block.Block
bare_block b = record { opening = placeless b.opening; items = map bare b.items; close = 0 }

abbrev layer_bare : Component-F Component block.Block → Component
layer_bare v = component_bare (component.map-Component Component block.Block Component block.Block (fold-Component Component block.Block component_bare block_bare) (block.fold-Block Component block.Block component_bare block_bare) v)

pub bare-Single : (p : Piece) → bare (component.Single p) ≡ component.Single (placeless p)
bare-Single p = fold_out-Component Component block.Block component_bare block_bare (component.Single p) ∙ ap layer_bare (outs-Single p)

pub bare-Block : (b : block.Block) → bare (component.Block b) ≡ component.Block (bare_block b)
bare-Block b = fold_out-Component Component block.Block component_bare block_bare (component.Block b) ∙ ap layer_bare (outs-Block b) ∙ ap component.Block (block.fold_out-Block Component block.Block component_bare block_bare b)

-- each with its values and functions at 0
abbrev pub bare_steps : Steps Supports
bare_steps = record {
  and_of = λ cs. supports.And cs;
  or_of = λ cs. supports.Or cs;
  not_of = λ c. supports.Not c;
  declared = λ name value. supports.Declared name (map bare value);
  function = λ at. supports.Function 0;
}

-- the supports condition with each place at 0
abbrev pub bare_supports : Supports → Supports
bare_supports = folded bare_steps
