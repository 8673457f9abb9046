-- Short texts as components, for the worked examples.
use Prim.Native.String.{String}
use Rattle.std.specs.Prelude.{List}
use Rattle.css_tokens.specs.declared.kind.Kind.TheVariants as kinds
use Rattle.selector_types.specs.Samples.{Sample, block, delim, token}

-- a number
abbrev pub number : String → Sample
number text = token kinds.Number text

-- an at-keyword, with its `@`
abbrev pub at_keyword : String → Sample
at_keyword text = token kinds.At text

-- a Url
abbrev pub url : String → Sample
url text = token kinds.Url text

-- a string, with its quotes
abbrev pub string : String → Sample
string text = token kinds.String text

-- the Delim `.`
abbrev pub dot : Sample
dot = delim "."

-- a semicolon
abbrev pub semicolon : Sample
semicolon = token kinds.Semicolon ";"

-- a `{}` block
abbrev pub braces : List Sample → Sample
braces ss = block kinds.Open "{" ss
