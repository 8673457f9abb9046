-- What is printed of the items that a sheet's items become reads as them.
use Rattle.std.proofs.Common.{◌≡◌, ◌∙◌, ℕ, List, [], ◌++◌, ap, flat_map, subst, sym, IsTrue}
use Rattle.sheet_types.specs.SheetTexts.{import_text, items_text, sheet_text}
use Rattle.sheet_types.specs.Standing.{AllStand}
use Rattle.sheet_types.specs.declared.sheet.Item.{Item}
use Rattle.sheet_types.specs.declared.sheet.Sheet.{Sheet}
use Rattle.css_rules.specs.Printable.{ArePrintable, all_whole}
use Rattle.cascade_spec.specs.Readings.{HasSheet, ReadsAsItems}
use Rattle.findings.specs.Constructs.{sheet_findings}
use Rattle.media_lower.specs.MediaItems.{lowered_item}
use Rattle.sheet_reader.specs.Texts.{SpellsSheet}

pub has-sheet : (text : List ℕ) (sheet : Sheet) → SpellsSheet text sheet → HasSheet text sheet
has-sheet text sheet spelled = (spelled.0, record { reads = spelled.1.tokens.read; formed = spelled.1.formed }, spelled.2)

-- what the lower crates ensure
pub record PrintLaws : Type 0 where
  pub importless : (file : ℕ) (sheet : Sheet) → sheet_findings file sheet ≡ [] → sheet.imports ≡ []
  pub whole : (file : ℕ) (sheet : Sheet) → sheet_findings file sheet ≡ [] → IsTrue (all_whole sheet)
  pub printable : (source : List ℕ) (sheet : Sheet) → HasSheet source sheet → IsTrue (all_whole sheet) → ArePrintable sheet.items
  pub stand : (source : List ℕ) (sheet : Sheet) → HasSheet source sheet → AllStand sheet.items
  pub still_printable : (items : List Item) → ArePrintable items → ArePrintable (flat_map lowered_item items)
  pub still_stand : (items : List Item) → AllStand items → AllStand (flat_map lowered_item items)
  pub read : (items : List Item) → ArePrintable items → AllStand items → ReadsAsItems (items_text items) items

pub lowered-read : PrintLaws → (source : List ℕ) (sheet made : Sheet) (text : List ℕ) → HasSheet source sheet → sheet_findings 0 sheet ≡ [] → made.items ≡ flat_map lowered_item sheet.items → made.imports ≡ sheet.imports → text ≡ sheet_text made
    → ReadsAsItems text (flat_map lowered_item sheet.items)
lowered-read laws source sheet made text has none items imports printed =
    let printable = laws.still_printable sheet.items (laws.printable source sheet has (laws.whole 0 sheet none)) in
    let stand = laws.still_stand sheet.items (laws.stand source sheet has) in
    subst (λ t. ReadsAsItems t (flat_map lowered_item sheet.items)) (sym (printed ∙ ap (λ is. flat_map import_text is ++ items_text made.items) (imports ∙ laws.importless 0 sheet none) ∙ ap items_text items)) (laws.read (flat_map lowered_item sheet.items) printable stand)
