-- What component values are where they stand before a block (CSS Syntax 3, sections 5.4.2 and 5.4.3).
use Rattle.std.specs.Prelude.{ℕ, List, Bool, true, false, not, codes}
use Rattle.css_tokens.specs.declared.kind.Kind.{Kind}
use Rattle.css_tokens.specs.declared.kind.Kind.TheVariants as kinds
use Rattle.css_tokens.specs.declared.component.Component.{Component, out-Component}
use Rattle.css_tokens.specs.declared.component.Component.TheOpen.{Component-F, Single, Block}
use Rattle.css_tokens.specs.Trees.{is_text}
use Rattle.css_tokens.specs.declared.component.Block as block

-- a component, laid open: a token, or a block of components
abbrev pub Layer : Type 0
Layer = Component-F Component block.Block

-- neither a semicolon nor an at-keyword
abbrev pub is_prelude_kind : Kind → Bool
is_prelude_kind kinds.Semicolon = false
is_prelude_kind kinds.At = false
is_prelude_kind k = true

-- the same of a component, laid open; a block is no `{}` block
abbrev pub layer_stands : Layer → Bool
layer_stands (Single p) = is_prelude_kind p.kind
layer_stands (Block b) = not (is_text b.opening.text (codes "{"))

-- does it neither end what stands before a block nor begin a block or an at-rule?
abbrev pub stands : Component → Bool
stands c = layer_stands (out-Component c)
