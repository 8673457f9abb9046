-- Short preludes and imports, for the worked examples.
use Prim.Native.String.{String}
use Rattle.std.specs.Prelude.{List, [], Option, Some, None, codes}
use Rattle.css_tokens.specs.declared.kind.Kind.TheVariants as kinds
use Rattle.media_spelling.specs.declared.condition.Query.{Query}
use Rattle.media_spelling.specs.declared.supports.Supports.{Supports}
use Rattle.media_spelling.specs.Samples.{Sample, token}
use Rattle.import_rules.specs.declared.import.ImportRule.{ImportRule}
use Rattle.import_rules.specs.declared.import.ImportRule.TheVariants.{Read}

-- a String, with its quotes
abbrev pub string : String → Sample
string text = token kinds.String text

-- a Url, with its `url(` and its `)`
abbrev pub url : String → Sample
url text = token kinds.Url text

-- the import at the place 4 of this target, under these conditions
abbrev pub import_under : String → Option Supports → List Query → ImportRule
import_under target supports media = Read (record { target = codes target; supports = supports; media = media; at = 4 })

-- the same under none
abbrev pub import_of : String → ImportRule
import_of target = import_under target None []

-- the same under this supports condition
abbrev pub import_where : String → Supports → ImportRule
import_where target condition = import_under target (Some condition) []
