-- Short texts as components, and short conditions, for the worked examples.
use Prim.Native.String.{String}
use Rattle.std.specs.Prelude.{ℕ, List, [], ◌∷◌, ◌+◌, None, Some, length, codes}
use Rattle.css_tokens.specs.declared.kind.Kind.{Kind}
use Rattle.css_tokens.specs.declared.kind.Kind.TheVariants as kinds
use Rattle.css_tokens.specs.declared.component.Component.{Component}
use Rattle.css_tokens.specs.declared.component.Component as components
use Rattle.media_spelling.specs.declared.condition.Bound.{Bound}
use Rattle.media_spelling.specs.declared.condition.Condition.{Condition}
use Rattle.media_spelling.specs.declared.condition.Condition as condition
use Rattle.media_spelling.specs.declared.condition.Prefix.{Prefix}
use Rattle.media_spelling.specs.declared.condition.Prefix.TheVariants as prefixes
use Rattle.media_spelling.specs.declared.condition.Query.{Query}
use Rattle.media_spelling.specs.declared.condition.Relation.{Relation}
use Rattle.media_spelling.specs.declared.supports.Supports.{Supports}
use Rattle.media_spelling.specs.declared.supports.Supports as supports

-- Texts.

-- a component, and the place behind it
pub record Placed : Type 0 where
  pub component : Component
  pub behind : ℕ

-- a component of a text, which is written without its place
abbrev pub Sample : Type 0
Sample = ℕ → Placed

-- the components one after another, the first at this place
abbrev pub laid : ℕ → List Sample → List Component
laid at [] = []
laid at (s ∷ ss) = (s at).component ∷ laid (s at).behind ss

-- the place behind them
abbrev pub end_of : ℕ → List Sample → ℕ
end_of at [] = at
end_of at (s ∷ ss) = end_of (s at).behind ss

-- the components of a whole text
abbrev pub source : List Sample → List Component
source ss = laid 0 ss

-- a token
abbrev pub token : Kind → String → Sample
token kind text at = record { component = components.Single (record { kind = kind; text = codes text; at = at }); behind = at + length (codes text) }

-- a block, whose first token is of this kind, and whose last is one character
abbrev pub block : Kind → String → List Sample → Sample
block kind text ss at =
    let start = at + length (codes text) in
    record {
      component = components.Block (record { opening = record { kind = kind; text = codes text; at = at }; items = laid start ss; close = end_of start ss });
      behind = end_of start ss + 1;
    }

-- an identifier
abbrev pub ident : String → Sample
ident text = token kinds.Ident text

-- a Delim
abbrev pub delim : String → Sample
delim text = token kinds.Delim text

-- one space
abbrev pub space : Sample
space = token kinds.White " "

-- a comment without text
abbrev pub comment : Sample
comment = token kinds.Comment "/**/"

-- a colon
abbrev pub colon : Sample
colon = token kinds.Colon ":"

-- a comma
abbrev pub comma : Sample
comma = token kinds.Comma ","

-- a semicolon
abbrev pub semicolon : Sample
semicolon = token kinds.Semicolon ";"

-- a Number
abbrev pub number : String → Sample
number text = token kinds.Number text

-- a Dimension
abbrev pub dimension : String → Sample
dimension text = token kinds.Dimension text

-- what stands in parentheses
abbrev pub parens : List Sample → Sample
parens ss = block kinds.Open "(" ss

-- a `{}` block
abbrev pub braces : List Sample → Sample
braces ss = block kinds.Open "{" ss

-- a Function, with its `(`, and what stands in it
abbrev pub call : String → List Sample → Sample
call text ss = block kinds.Function text ss

-- Conditions.

-- a feature in the boolean context
abbrev pub bare : String → Condition
bare name = condition.Feature (record { name = codes name; value = None })

-- a feature in the plain context
abbrev pub valued : String → String → Condition
valued name value = condition.Feature (record { name = codes name; value = Some (codes value) })

-- a relation and a value
abbrev pub bound : Relation → String → Bound
bound relation value = record { relation = relation; value = codes value }

-- a range with one bound
abbrev pub ray : String → Relation → String → Condition
ray name relation value = condition.Range (record { name = codes name; first = bound relation value; second = None })

-- a range with two bounds
abbrev pub interval : String → Bound → Bound → Condition
interval name first second = condition.Range (record { name = codes name; first = first; second = Some second })

-- the query that is this condition
abbrev pub only_if : Condition → Query
only_if c = record { prefix = prefixes.Plain; media = None; condition = Some c }

-- the query of this prefix and media type
abbrev pub media : Prefix → String → Query
media prefix name = record { prefix = prefix; media = Some (codes name); condition = None }

-- the same with a condition
abbrev pub media_and : Prefix → String → Condition → Query
media_and prefix name c = record { prefix = prefix; media = Some (codes name); condition = Some c }

-- the declaration of this name and this value, of which the first token stands at this place
abbrev pub declared : String → ℕ → List Sample → Supports
declared name at value = supports.Declared (codes name) (laid at value)
