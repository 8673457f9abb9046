-- A component is a token or a block.
use Rattle.std.proofs.Common.{◌≡◌, List, false, ◌&&◌, not, refl, sym, ◌∙◌, ap, ◌⊎◌, inl, inr, ℕ}
use Rattle.css_tokens.specs.declared.component.Component.{Component, out-Component, roll-Component, roll-out-Component}
use Rattle.css_tokens.specs.declared.component.Component as component
use Rattle.css_tokens.specs.declared.component.Component.TheOpen.{Single, Block}
use Rattle.css_tokens.specs.declared.component.Component.TheVariants.{outs-Single, outs-Block, rolls-Single, rolls-Block}
use Rattle.css_tokens.specs.declared.component.Block as block
use Rattle.css_tokens.specs.Piece.{Piece}
use Rattle.css_components.specs.Components.{Layer, inside, is_keyword, layer_head, layer_is_single, layer_items, name_of}
use Rattle.import_rules.specs.Imports.{is_function, is_function_kind}

-- a component is a token or a block
pub shape_of : (c : Component) → ((p : Piece) × (c ≡ component.Single p)) ⊎ ((b : block.Block) × (c ≡ component.Block b))
shape_of c = at (out-Component c) refl
  where
    at : (o : Layer) → out-Component c ≡ o → ((p : Piece) × (c ≡ component.Single p)) ⊎ ((b : block.Block) × (c ≡ component.Block b))
    at (Single p) e = inl (p, sym (roll-out-Component c) ∙ ap roll-Component e ∙ rolls-Single p)
    at (Block b) e = inr (b, sym (roll-out-Component c) ∙ ap roll-Component e ∙ rolls-Block b)

pub inside-Block : (b : block.Block) → inside (component.Block b) ≡ b.items
inside-Block b = ap layer_items (outs-Block b)

-- a token alone is no function
pub function-Single : (name : List ℕ) (p : Piece) → is_function name (component.Single p) ≡ false
function-Single name p = ap (λ v. not (layer_is_single v) && (is_function_kind (layer_head v).kind && is_keyword name (name_of (layer_head v)))) (outs-Single p)
