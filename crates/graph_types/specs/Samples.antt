-- Imports, files and graphs that are written out, for the worked examples.
use Rattle.std.specs.Prelude.{ℕ, List, [], ◌∷◌, Option, None, Some}
use Rattle.std.specs.Borrow.{Bor}
use Rattle.media_spelling.specs.Samples.{declared, ident, media}
use Rattle.media_spelling.specs.declared.condition.Prefix.TheVariants as prefixes
use Rattle.media_spelling.specs.declared.condition.Query.{Query}
use Rattle.media_spelling.specs.declared.supports.Supports.{Supports}
use Rattle.sheet_types.specs.declared.sheet.Import.{Import}
use Rattle.graph_types.specs.declared.graph.Graph.{Graph}
use Rattle.graph_types.specs.declared.graph.SourceFile.{SourceFile}

-- an import without conditions
abbrev pub plain_import : Import
plain_import = record { target = []; supports = None; media = []; at = 0 }

-- the query of the media type `print`
abbrev pub print : Query
print = media prefixes.Plain "print"

-- the query of the media type `screen`
abbrev pub screen : Query
screen = media prefixes.Plain "screen"

-- the supports condition `(a:b)`
abbrev pub a_is_b : Supports
a_is_b = declared "a" 0 (ident "b" ∷ [])

-- an import for printers
abbrev pub print_import : Import
print_import = record { target = []; supports = None; media = print ∷ []; at = 0 }

-- an import for screens that hold `(a:b)`
abbrev pub both_import : Import
both_import = record { target = []; supports = Some a_is_b; media = screen ∷ []; at = 0 }

-- a file with these bytes, these imports and these targets
abbrev pub file_of : Bor (List ℕ) → List Import → List ℕ → SourceFile
file_of bytes imports targets = record { path = []; bytes = bytes; sheet = record { imports = imports; items = [] }; targets = targets }

-- a graph of these files
abbrev pub graph_of : List SourceFile → Graph
graph_of files = record { files = files }
