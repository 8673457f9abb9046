-- What it is for a text to read as a sheet (CSS Syntax 3, section 5) and as given items, and for another text to keep its winners.
use Rattle.std.specs.Prelude.{ℕ, List, Some, ◌≡◌, IsTrue}
use Rattle.css_tokens.specs.declared.component.Component.{Component}
use Rattle.css_tokens.specs.Tokens.{Reads}
use Rattle.css_tokens.specs.Trees.{words_all, all_formed}
use Rattle.sheet_types.specs.declared.sheet.Sheet.{Sheet}
use Rattle.sheet_types.specs.declared.sheet.Item.{Item}
use Rattle.sheet_types.specs.BareItems.{bare_items, bare_sheet, filled_items, importless}
use Rattle.css_rules.specs.Sheets.{sheet_of}
use Rattle.sheet_types.specs.Statements.{statements_of}
use Rattle.cascade_spec.specs.Contents.{SameWinners}

-- The text reads as these components, places aside: its tokens are their words, and their brackets are paired, to any depth.
pub record ReadsAs (text : List ℕ) (components : List Component) : Type 0 where
  pub reads : Reads text (words_all components)
  pub formed : IsTrue (all_formed components)

-- the text reads as components that spell this sheet, places aside
abbrev pub HasSheet : List ℕ → Sheet → Type 0
HasSheet text sheet = (components : List Component) × ReadsAs text components × (sheet_of components ≡ Some sheet)

-- The text reads as a sheet, and each sheet that it reads as has no import and, item by item, these items without the rules and groups that declare nothing, places, comments and the spelling of white space aside.
pub record ReadsAsItems (text : List ℕ) (items : List Item) : Type 0 where
  pub readable : (sheet : Sheet) × HasSheet text sheet
  pub same : (sheet : Sheet) → HasSheet text sheet → bare_sheet sheet ≡ importless (filled_items (bare_items items))

-- Under the sheet of the one text each winner is that under the sheet of the other, and it has one.
pub record KeepsWinners (source written : List ℕ) : Type 0 where
  pub readable : (sheet : Sheet) × HasSheet written sheet
  pub same : (old new : Sheet) → HasSheet source old → HasSheet written new → SameWinners (statements_of old) (statements_of new)
