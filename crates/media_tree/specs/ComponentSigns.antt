-- What component values are to a grammar: of a token by itself, and of a block by what the components in it are.
use Rattle.std.specs.Prelude.{List, [], ◌∷◌, map, ◌≡◌}
use Rattle.std.proofs.Common.{refl, ◌∙◌, ap}
use Rattle.css_tokens.specs.Piece.{Piece}
use Rattle.css_tokens.specs.declared.component.Component.{Component}
use Rattle.css_tokens.specs.declared.component.Component as component
use Rattle.css_tokens.specs.declared.component.Block as block
use Rattle.css_tokens.specs.declared.component.Component.TheOpen.{Component-F, Single, Block, Block-F}
use Rattle.css_tokens.specs.declared.component.Component.TheFolds.{fold-Component, fold_out-Component}
use Rattle.css_tokens.specs.declared.component.Component.TheVariants.{outs-Single, outs-Block}
use Rattle.media_tree.specs.ComponentInduction.{Each, by_components}

-- a component, and what it is to the grammar
pub record Seen (S : Type 0) : Type 0 where
  pub whole : Component
  pub sign : S

module _ {S : Type 0} (token : Piece → S) (blocked : block.Block → List S → S) where
  -- a token, or what is seen of a block
  abbrev pub of_component : Component-F (Seen S) (Seen S) → Seen S
  of_component (Single p) = record { whole = component.Single p; sign = token p }
  of_component (Block m) = m

  -- the block of these components
  abbrev pub rebuilt : Block-F (Seen S) (Seen S) → block.Block
  rebuilt b = record { opening = b.opening; items = map (λ m. m.whole) b.items; close = b.close }

  -- a block, from what is seen of the components in it
  abbrev pub of_block : Block-F (Seen S) (Seen S) → Seen S
  of_block b = record { whole = component.Block (rebuilt b); sign = blocked (rebuilt b) (map (λ m. m.sign) b.items) }

  -- a component, and what it is to the grammar
  abbrev pub seen : Component → Seen S
  seen = fold-Component (Seen S) (Seen S) of_component of_block

  -- what a component is to the grammar
  abbrev pub sign_of : Component → S
  sign_of c = (seen c).sign

  abbrev layer_seen : Component-F Component block.Block → Seen S
  layer_seen v = of_component (component.map-Component Component block.Block (Seen S) (Seen S) seen (block.fold-Block (Seen S) (Seen S) of_component of_block) v)

  seen-Single : (p : Piece) → seen (component.Single p) ≡ record { whole = component.Single p; sign = token p }
  seen-Single p = fold_out-Component (Seen S) (Seen S) of_component of_block (component.Single p) ∙ ap layer_seen (outs-Single p)

  -- a block, with what is seen of each component in it
  abbrev seen_inside : block.Block → Block-F (Seen S) (Seen S)
  seen_inside b = record { opening = b.opening; items = map seen b.items; close = b.close }

  seen-Block : (b : block.Block) → seen (component.Block b) ≡ of_block (seen_inside b)
  seen-Block b = fold_out-Component (Seen S) (Seen S) of_component of_block (component.Block b) ∙ ap layer_seen (outs-Block b) ∙ block.fold_out-Block (Seen S) (Seen S) of_component of_block b

  wholes : (cs : List Component) → Each (λ c. (seen c).whole ≡ c) cs → map (λ m. m.whole) (map seen cs) ≡ cs
  wholes [] same = refl
  wholes (c ∷ cs) same = ap (λ (x : Component). x ∷ map (λ m. m.whole) (map seen cs)) same.0 ∙ ap (λ (xs : List Component). c ∷ xs) (wholes cs same.1)

  abbrev around : block.Block → List Component → Component
  around b cs = component.Block (record { opening = b.opening; items = cs; close = b.close })

  whole-same : (c : Component) → (seen c).whole ≡ c
  whole-same c =
      by_components (λ x. (seen x).whole ≡ x)
      (λ p. ap (λ (m : Seen S). m.whole) (seen-Single p))
      (λ b same. ap (λ (m : Seen S). m.whole) (seen-Block b) ∙ ap (around b) (wholes b.items same))
      c

  all-whole : (cs : List Component) → Each (λ c. (seen c).whole ≡ c) cs
  all-whole [] = tt
  all-whole (c ∷ cs) = (whole-same c, all-whole cs)

  signs : (cs : List Component) → map (λ m. m.sign) (map seen cs) ≡ map sign_of cs
  signs [] = refl
  signs (c ∷ cs) = ap (λ (xs : List S). sign_of c ∷ xs) (signs cs)

  -- A token is what it is by itself.
  pub sign_of-Single : (p : Piece) → sign_of (component.Single p) ≡ token p
  sign_of-Single p = ap (λ (m : Seen S). m.sign) (seen-Single p)

  abbrev blocked_by : block.Block → List Component → List S → S
  blocked_by b cs ss = blocked (record { opening = b.opening; items = cs; close = b.close }) ss

  -- A block is what it is by what the components in it are.
  pub sign_of-Block : (b : block.Block) → sign_of (component.Block b) ≡ blocked b (map sign_of b.items)
  sign_of-Block b =
      ap (λ (m : Seen S). m.sign) (seen-Block b)
      ∙ ap (λ (cs : List Component). blocked_by b cs (map (λ m. m.sign) (map seen b.items))) (wholes b.items (all-whole b.items))
      ∙ ap (blocked_by b b.items) (signs b.items)
