-- What holds of each component value, from what holds of those in it.
use Rattle.std.specs.Prelude.{List, [], ◌∷◌, map}
use Rattle.std.proofs.Common.{subst}
use Rattle.css_tokens.specs.Piece.{Piece}
use Rattle.css_tokens.specs.declared.component.Component.{Component, roll-Component, ind-Component}
use Rattle.css_tokens.specs.declared.component.Component as component
use Rattle.css_tokens.specs.declared.component.Component.TheOpen.{Component-F, Single, Block}
use Rattle.css_tokens.specs.declared.component.Block as block

-- P holds of each
abbrev pub Each : (P : Component → Type 0) → List Component → Type 0
Each P [] = Unit {0}
Each P (c ∷ cs) = P c × Each P cs

each_of : (P : Component → Type 0) (ys : List ((c : Component) × P c)) → Each P (map (λ e. e.0) ys)
each_of P [] = tt
each_of P (y ∷ ys) = (y.1, each_of P ys)

abbrev made : (P : Component → Type 0) (Q : block.Block → Type 0) → Component-F ((c : Component) × P c) ((b : block.Block) × Q b) → Component-F Component block.Block
made P Q = component.map-Component ((c : Component) × P c) ((b : block.Block) × Q b) Component block.Block (λ e. e.0) (λ e. e.0)

component_step : (P : Component → Type 0) (Q : block.Block → Type 0)
    (single : (p : Piece) → P (component.Single p))
    (around : (b : block.Block) → Q b → P (component.Block b))
    (y : Component-F ((c : Component) × P c) ((b : block.Block) × Q b)) → P (roll-Component (made P Q y))
unfolding roll-Component denote.Hole.Carrier.roll
component_step P Q single around (Single p) = single p
component_step P Q single around (Block e) = around e.0 e.1

pub by_components :
    (P : Component → Type 0)
    (single : (p : Piece) → P (component.Single p))
    (around : (b : block.Block) → Each P b.items → P (component.Block b))
    (c : Component) → P c
by_components P single around c =
    let Q : block.Block → Type 0 = λ b. Each P b.items in
    ind-Component P Q
    (λ x y is. subst (λ z. P (roll-Component z)) is (component_step P Q single around y))
    (λ x y is. subst (λ z. Each P z.items) is (each_of P y.items))
    c
