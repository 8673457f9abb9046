-- What stands against a file's text. What comes first of these is named: where reading stops, a bracket that is not
-- paired, what the sheet is refused for, what in it cannot be expressed. Where none of these does, a limit may be passed.
use Rattle.std.specs.Prelude.{ℕ, ◌≡◌, ◌⊎◌, List, [], length, Some, None}
use Rattle.std.specs.Option.{option_map}
use Rattle.css_tokens.specs.declared.component.Component.{Component}
use Rattle.css_tokens.specs.declared.pairing.ComponentFault.TheVariants as fault
use Rattle.css_tokens.specs.Components.{HasComponents, HasTokens}
use Rattle.css_tokens.specs.Pairing.{IsBracketFault}
use Rattle.css_tokens.specs.Piece.{Piece}
use Rattle.css_tokens.specs.Tokens.{StopsAt}
use Rattle.css_rules.specs.Refusals.{first_refusal, late_import, syntax, unbuilt}
use Rattle.css_rules.specs.Sheets.{sheet_refusals}
use Rattle.sheet_types.specs.declared.sheet.Sheet.{Sheet}
use Rattle.sheet_reader.specs.Texts.{SpellsSheet}
use Rattle.findings.specs.Constructs.{sheet_findings}
use Rattle.findings.specs.Firsts.{first_finding}
use Rattle.findings.specs.Limits.{sheet_limit}
use Rattle.css_places.specs.declared.finding.Code.{Code}
use Rattle.css_places.specs.declared.finding.Finding.{Finding}
use Rattle.css_places.specs.declared.finding.LimitKind.{LimitKind}
use Rattle.css_places.specs.declared.finding.Code.TheVariants.{Syntax, Depth, LateImport, Missing, Unbuilt, X6, X7, X11, X12, X16, X17, X22}

-- no token that is read begins there, or no text may hold what stands there
abbrev pub HasStop : List ℕ → Code → ℕ → Type 0
HasStop bytes code offset = (code ≡ Syntax) × StopsAt bytes offset

-- a bracket matches none, or is open at the end, or is nested too deep
abbrev pub IsUnpaired : List Piece → ℕ → Code → ℕ → Type 0
IsUnpaired tokens end Syntax offset = IsBracketFault tokens end (fault.Syntax offset)
IsUnpaired tokens end Depth offset = IsBracketFault tokens end (fault.Depth offset)
IsUnpaired tokens end LateImport offset = ⊥
IsUnpaired tokens end Missing offset = ⊥
IsUnpaired tokens end Unbuilt offset = ⊥
IsUnpaired tokens end X6 offset = ⊥
IsUnpaired tokens end X7 offset = ⊥
IsUnpaired tokens end X11 offset = ⊥
IsUnpaired tokens end X12 offset = ⊥
IsUnpaired tokens end X16 offset = ⊥
IsUnpaired tokens end X17 offset = ⊥
IsUnpaired tokens end X22 offset = ⊥

-- the text has tokens, and their brackets have a fault of this cause at this place
abbrev pub HasBracketFault : List ℕ → Code → ℕ → Type 0
HasBracketFault bytes code offset = (tokens : List Piece) × HasTokens bytes tokens × IsUnpaired tokens (length bytes) code offset

-- the sheet is refused there
abbrev pub IsRefused : List Component → Code → ℕ → Type 0
IsRefused components Syntax offset = first_refusal (sheet_refusals components) ≡ Some (syntax offset)
IsRefused components Unbuilt offset = first_refusal (sheet_refusals components) ≡ Some (unbuilt offset)
IsRefused components LateImport offset = first_refusal (sheet_refusals components) ≡ Some (late_import offset)
IsRefused components Depth offset = ⊥
IsRefused components Missing offset = ⊥
IsRefused components X6 offset = ⊥
IsRefused components X7 offset = ⊥
IsRefused components X11 offset = ⊥
IsRefused components X12 offset = ⊥
IsRefused components X16 offset = ⊥
IsRefused components X17 offset = ⊥
IsRefused components X22 offset = ⊥

-- the text has component values, and the sheet of them is refused at this place, for this cause
abbrev pub HasRefusal : List ℕ → Code → ℕ → Type 0
HasRefusal bytes code offset = (components : List Component) × HasComponents bytes components × IsRefused components code offset

-- the code of a finding, and its place in its file
abbrev pub code_and_offset : Finding → Code × ℕ
code_and_offset finding = (finding.code, finding.place.offset)

-- of what cannot be expressed in the sheet, this code at this place is named
abbrev pub IsFound : Sheet → Code → ℕ → Type 0
IsFound sheet code offset = option_map code_and_offset (first_finding (sheet_findings 0 sheet)) ≡ Some (code, offset)

-- the text has a sheet in which this cannot be expressed
abbrev pub HasConstruct : List ℕ → Code → ℕ → Type 0
HasConstruct bytes code offset = (sheet : Sheet) × SpellsSheet bytes sheet × IsFound sheet code offset

-- the text is refused first at this place, for this cause
unfoldable pub HasFinding : List ℕ → Code → ℕ → Type 0
HasFinding bytes code offset = HasStop bytes code offset ⊎ (HasBracketFault bytes code offset ⊎ (HasRefusal bytes code offset ⊎ HasConstruct bytes code offset))

-- the text has a sheet in which all can be expressed, and which passes this limit
unfoldable pub PassesLimit : List ℕ → LimitKind → Type 0
PassesLimit bytes kind = (sheet : Sheet) × SpellsSheet bytes sheet × (sheet_findings 0 sheet ≡ []) × (sheet_limit sheet ≡ Some kind)

-- nothing stands against the text: it reads as a sheet in which all can be expressed, and which passes no limit
unfoldable pub IsAccepted : List ℕ → Type 0
IsAccepted bytes = (sheet : Sheet) × SpellsSheet bytes sheet × (sheet_findings 0 sheet ≡ []) × (sheet_limit sheet ≡ None)
