-- Modes and values for the worked examples.
use Prim.Native.String.{String}
use Rattle.std.specs.Prelude.{[], ◌∷◌, codes}
use Rattle.css_tokens.specs.declared.component.Component.{Component}
use Rattle.css_tokens.specs.declared.component.Component as component
use Rattle.css_tokens.specs.declared.kind.Kind.{Kind}
use Rattle.css_tokens.specs.declared.kind.Kind.TheVariants as kind
use Rattle.prop_table.specs.PhysicalProperties.{declares}
use Rattle.prop_table.specs.declared.declarations.Physical.{Physical}
use Rattle.prop_table.specs.declared.mode.Direction.TheVariants.{Rtl}
use Rattle.prop_table.specs.declared.mode.Mode.{Mode}
use Rattle.prop_table.specs.declared.mode.Writing.TheVariants.{VerticalRl}

-- vertical-rl and rtl: block-start is the right, inline-start the bottom
abbrev pub upright : Mode
upright = record { writing = VerticalRl; direction = Rtl }

-- a token alone, its place aside
abbrev pub single : Kind → String → Component
single k text = component.Single (record { kind = k; text = codes text; at = 0 })

-- an identifier
abbrev pub word : String → Component
word text = single kind.Ident text

-- a length
abbrev pub size : String → Component
size text = single kind.Dimension text

-- one space
abbrev pub space : Component
space = single kind.White " "

-- a comment
abbrev pub comment : Component
comment = single kind.Comment "/**/"

-- a declaration of this property and one component
abbrev pub declared : String → Component → Physical
declared name part = declares (codes name) (part ∷ [])
