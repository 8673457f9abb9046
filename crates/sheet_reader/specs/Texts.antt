-- The sheet of a text, and what stands first where it has none (CSS Syntax 3, sections 4, 5 and 9).
use Rattle.std.specs.Prelude.{ℕ, ◌≡◌, ◌⊎◌, List, Some}
use Rattle.css_tokens.specs.declared.component.Component.{Component}
use Rattle.css_tokens.specs.declared.pairing.ComponentFault.TheVariants as components
use Rattle.css_tokens.specs.Components as texts
use Rattle.css_tokens.specs.Components.{HasComponents}
use Rattle.css_rules.specs.Refusals.{first_refusal, late_import, syntax, unbuilt}
use Rattle.css_rules.specs.Sheets.{sheet_of, sheet_refusals}
use Rattle.css_rules.specs.declared.refusal.Refusal.{Refusal}
use Rattle.sheet_types.specs.declared.sheet.Sheet.{Sheet}
use Rattle.sheet_reader.specs.declared.fault.SheetFault.{SheetFault}
use Rattle.sheet_reader.specs.declared.fault.SheetFault.TheVariants.{Syntax, Depth, Unbuilt, LateImport, Memory}

-- the text has component values that spell this sheet
abbrev pub SpellsSheet : List ℕ → Sheet → Type 0
SpellsSheet text sheet = (components : List Component) × HasComponents text components × (sheet_of components ≡ Some sheet)

-- the text has component values, and the sheet of them is refused for this first
abbrev pub HasRefusal : List ℕ → Refusal → Type 0
HasRefusal text refusal = (components : List Component) × HasComponents text components × (first_refusal (sheet_refusals components) ≡ Some refusal)

-- The text has no sheet, and this is why: it has no component values, or else the sheet of them is refused. Memory may run out at any time.
abbrev pub IsFirstFault : List ℕ → SheetFault → Type 0
IsFirstFault text (Syntax at) = texts.IsFirstFault text (components.Syntax at) ⊎ HasRefusal text (syntax at)
IsFirstFault text (Depth at) = texts.IsFirstFault text (components.Depth at)
IsFirstFault text (Unbuilt at) = HasRefusal text (unbuilt at)
IsFirstFault text (LateImport at) = HasRefusal text (late_import at)
IsFirstFault text Memory = Unit {0}
