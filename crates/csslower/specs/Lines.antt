-- The lines of messages, each ended by LF.
use Rattle.std.specs.Prelude.{ℕ, List, [], ◌∷◌, ◌++◌, codes}
use Rattle.std.specs.Fmt.{decimal}
use Rattle.css_places.specs.Lines.{line_of, column_of}
use Rattle.css_places.specs.declared.finding.Code.{Code}
use Rattle.css_places.specs.declared.finding.Code.TheVariants.{Syntax, Depth, LateImport, Missing, Unbuilt, X6, X7, X11, X12, X16, X17, X22}
use Rattle.css_places.specs.declared.finding.Finding.{Finding}
use Rattle.css_places.specs.declared.finding.LimitKind.{LimitKind}
use Rattle.css_places.specs.declared.finding.LimitKind.TheVariants.{L2, L8}

-- the end of a line
abbrev pub line_end : List ℕ
line_end = 10 ∷ []

-- the name of a code, and what it says
abbrev pub code_text : Code → List ℕ
code_text Syntax = codes "Syntax cannot be read"
code_text Depth = codes "Depth nested too deep"
code_text LateImport = codes "LateImport import comes too late"
code_text Missing = codes "Missing file not found"
code_text Unbuilt = codes "Unbuilt not built yet"
code_text X6 = codes "X6 :where"
code_text X7 = codes "X7 :not of other than one simple selector"
code_text X11 = codes "X11 functional pseudo"
code_text X12 = codes "X12 at-rule"
code_text X16 = codes "X16 unknown feature under not"
code_text X17 = codes "X17 supports function"
code_text X22 = codes "X22 attribute flag"

-- a line and a column, counted from 1, where a text is cut into lines by LF
abbrev pub place_text : List ℕ → ℕ → List ℕ
place_text source offset = decimal (line_of source offset) ++ codes ":" ++ decimal (column_of source offset)

-- the line for a refusal of a file of this path and text: `PATH:LINE:COLUMN: CODE TEXT`
abbrev pub refusal_line : List ℕ → List ℕ → Finding → List ℕ
refusal_line path source finding = path ++ codes ":" ++ place_text source finding.place.offset ++ codes ": " ++ code_text finding.code ++ line_end

-- the line for words that are no command
abbrev pub usage_line : List ℕ
usage_line = codes "csslower: usage: csslower ENTRY [--outfile=PATH] [--names=PATH] [--writing-mode=W] [--direction=D] [--workers=N]" ++ line_end

-- the line for a file that could not be read
abbrev pub unread_line : List ℕ → List ℕ
unread_line path = codes "csslower: cannot read " ++ path ++ line_end

-- the line for an output that could not be written
abbrev pub unwritten_line : List ℕ → List ℕ
unwritten_line name = codes "csslower: cannot write " ++ name ++ line_end

-- the line for want of memory
abbrev pub memory_line : List ℕ
memory_line = codes "csslower: out of memory" ++ line_end

-- the line for a limit that is passed
abbrev pub limit_line : LimitKind → List ℕ
limit_line L2 = codes "csslower: limit L2 passed" ++ line_end
limit_line L8 = codes "csslower: limit L8 passed" ++ line_end
