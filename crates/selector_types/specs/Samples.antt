-- Short texts as components, and short selectors, for the worked examples.
use Prim.Native.String.{String}
use Rattle.std.specs.Prelude.{ℕ, List, [], ◌∷◌, ◌+◌, true, false, None, Some, length, codes}
use Rattle.css_tokens.specs.declared.kind.Kind.{Kind}
use Rattle.css_tokens.specs.declared.kind.Kind.TheVariants as kinds
use Rattle.css_tokens.specs.declared.component.Component.{Component}
use Rattle.css_tokens.specs.declared.component.Component as components
use Rattle.selector_types.specs.declared.selector.Attribute.{Attribute}
use Rattle.selector_types.specs.declared.selector.Combinator.{Combinator}
use Rattle.selector_types.specs.declared.selector.Compound.{Compound}
use Rattle.selector_types.specs.declared.selector.Link as link
use Rattle.selector_types.specs.declared.selector.Part as part
use Rattle.selector_types.specs.declared.selector.Selector.{Selector}
use Rattle.selector_types.specs.declared.selector.Simple.{Simple}
use Rattle.selector_types.specs.declared.selector.Simple as simple
use Rattle.selector_types.specs.declared.selector.Test.{Test}
use Rattle.selector_types.specs.declared.selector.TypeName.TheVariants as types
use Rattle.selector_types.specs.declared.triple.Specificity.{Specificity}

-- Texts.

-- a component, and the place behind it
pub record Placed : Type 0 where
  pub component : Component
  pub behind : ℕ

-- a component of a text, which is written without its place
abbrev pub Sample : Type 0
Sample = ℕ → Placed

-- the components one after another, the first at this place
abbrev pub laid : ℕ → List Sample → List Component
laid at [] = []
laid at (s ∷ ss) = (s at).component ∷ laid (s at).behind ss

-- the place behind them
abbrev pub end_of : ℕ → List Sample → ℕ
end_of at [] = at
end_of at (s ∷ ss) = end_of (s at).behind ss

-- the components of a whole text
abbrev pub source : List Sample → List Component
source ss = laid 0 ss

-- a token
abbrev pub token : Kind → String → Sample
token kind text at = record { component = components.Single (record { kind = kind; text = codes text; at = at }); behind = at + length (codes text) }

-- a block, whose first token is of this kind, and whose last is one character
abbrev pub block : Kind → String → List Sample → Sample
block kind text ss at =
    let start = at + length (codes text) in
    record {
      component = components.Block (record { opening = record { kind = kind; text = codes text; at = at }; items = laid start ss; close = end_of start ss });
      behind = end_of start ss + 1;
    }

-- an identifier
abbrev pub ident : String → Sample
ident text = token kinds.Ident text

-- a Hash, with its `#`
abbrev pub hash : String → Sample
hash text = token kinds.Hash text

-- a Delim
abbrev pub delim : String → Sample
delim text = token kinds.Delim text

-- one space
abbrev pub space : Sample
space = token kinds.White " "

-- a comment without text
abbrev pub comment : Sample
comment = token kinds.Comment "/**/"

-- a colon
abbrev pub colon : Sample
colon = token kinds.Colon ":"

-- a comma
abbrev pub comma : Sample
comma = token kinds.Comma ","

-- a `[]` block
abbrev pub brackets : List Sample → Sample
brackets ss = block kinds.Open "[" ss

-- a Function, with its `(`, and what stands in it
abbrev pub call : String → List Sample → Sample
call text ss = block kinds.Function text ss

-- Selectors.

-- this simple selector at this place
abbrev pub part_at : ℕ → Simple → part.Part
part_at at x = part.Placed x at

-- the class of this name
abbrev pub class : String → Simple
class name = simple.Class (codes name)

-- the id of this name
abbrev pub id : String → Simple
id name = simple.Id (codes name)

-- the pseudo-class of this text
abbrev pub pseudo : String → Simple
pseudo text = simple.Pseudo (codes text)

-- an attribute selector with this value
abbrev pub attribute : String → Test → String → Attribute
attribute name test value = record { name = codes name; test = test; value = codes value; flag = false }

-- the same with a flag
abbrev pub flagged : String → Test → String → Attribute
flagged name test value = record { name = codes name; test = test; value = codes value; flag = true }

-- a compound without a type selector and without a pseudo-element
abbrev pub untyped : List part.Part → Compound
untyped parts = record { kind = types.None; parts = parts; tail = None }

-- a compound that begins with this type name
abbrev pub typed : String → List part.Part → Compound
typed name parts = record { kind = types.Name (codes name); parts = parts; tail = None }

-- the compound `*`
abbrev pub every : Compound
every = record { kind = types.Universal; parts = []; tail = None }

-- a compound with this pseudo-element and these states
abbrev pub ended : Compound → String → List (List ℕ) → Compound
ended k element states = record { kind = k.kind; parts = k.parts; tail = Some (record { element = codes element; states = states }) }

-- a selector of one compound at this place
abbrev pub one_at : ℕ → Compound → Selector
one_at at k = record { lead = None; first = k; rest = []; at = at }

-- the same at the place 0
abbrev pub one : Compound → Selector
one k = one_at 0 k

-- a selector of one compound behind this combinator
abbrev pub led : Combinator → Compound → Selector
led combinator k = record { lead = Some combinator; first = k; rest = []; at = 0 }

-- a selector of one simple selector at the place 0
abbrev pub only : Simple → Selector
only x = one (untyped (part.Placed x 0 ∷ []))

-- a selector of two compounds and the combinator between them
abbrev pub two : Compound → Combinator → Compound → Selector
two first combinator second = record { lead = None; first = first; rest = link.Linked combinator second ∷ []; at = 0 }

-- ids, classes and types
abbrev pub triple : ℕ → ℕ → ℕ → Specificity
triple a b c = record { a = a; b = b; c = c }
