-- The sheets of a text are printable, and what items print as reads as them.
use Rattle.std.proofs.Common.{◌≡◌, ℕ, List, Option, Some, None, refl, sym, ◌∙◌, ap, subst, IsTrue}
use Rattle.std.specs.List.{list_all}
use Rattle.std.specs.Option.{option_map}
use Rattle.css_tokens.specs.declared.component.Component.{Component}
use Rattle.css_tokens.specs.Piece.{Word}
use Rattle.css_tokens.specs.Tokens.{Reads}
use Rattle.css_tokens.specs.Trees.{words_all, all_formed}
use Rattle.selector_types.specs.ReadableSelectors.{is_spelled}
use Rattle.media_tree.specs.SpelledWords.{AreRead}
use Rattle.sheet_types.specs.BareItems.{bare_items, bare_sheet, filled_items, importless}
use Rattle.sheet_types.specs.Contexts.{Context, outside}
use Rattle.css_rules.specs.PlainRules.{is_plain_item}
use Rattle.css_rules.specs.Printable.{ArePrintable, all_whole}
use Rattle.css_rules.specs.Sheets.{sheet_of}
use Rattle.sheet_types.specs.SheetAgain.{items_again}
use Rattle.sheet_types.specs.SheetTexts.{items_text}
use Rattle.sheet_types.specs.Standing.{AllStand}
use Rattle.sheet_types.specs.Statements.{say_all, statements_of}
use Rattle.sheet_types.specs.declared.sheet.Item.{Item}
use Rattle.sheet_types.specs.declared.sheet.Sheet.{Sheet}
use Rattle.cascade_spec.specs.Contents.{SameWinners}
use Rattle.cascade_spec.specs.Readings.{HasSheet, KeepsWinners, ReadsAsItems}
use Rattle.cascade_spec.proofs.SpelledWords.{NameLaws, words-spelled}

-- Texts that are read.

-- what the lower crates ensure of them
pub record TextLaws : Type 0 where
  pub one : (t : List ℕ) (a b : List Word) → Reads t a → Reads t b → a ≡ b
  pub names : NameLaws
  pub read : (t : List ℕ) (cs : List Component) → Reads t (words_all cs) → AreRead cs
  pub printable : (cs : List Component) (sheet : Sheet) → sheet_of cs ≡ Some sheet → IsTrue (all_formed cs) → IsTrue (list_all is_spelled (words_all cs)) → AreRead cs → IsTrue (all_whole sheet) → ArePrintable sheet.items
  pub plain : (cs : List Component) (sheet : Sheet) → sheet_of cs ≡ Some sheet → IsTrue (all_formed cs) → IsTrue (list_all is_spelled (words_all cs)) → AreRead cs → IsTrue (list_all is_plain_item sheet.items)
  pub standing : (text : List ℕ) (cs : List Component) (sheet : Sheet) → Reads text (words_all cs) → IsTrue (all_formed cs) → sheet_of cs ≡ Some sheet → AllStand sheet.items
  pub places : (a b : List Component) → words_all a ≡ words_all b → IsTrue (all_formed a) → IsTrue (all_formed b) → option_map bare_sheet (sheet_of a) ≡ option_map bare_sheet (sheet_of b)

module _ (laws : TextLaws) where
  pub text-printable : (source : List ℕ) (sheet : Sheet) → HasSheet source sheet → IsTrue (all_whole sheet) → ArePrintable sheet.items
  text-printable source sheet has whole =
      laws.printable has.0 sheet has.2 has.1.formed (words-spelled laws.names source (words_all has.0) has.1.reads) (laws.read source has.0 has.1.reads) whole

  pub text-stands : (source : List ℕ) (sheet : Sheet) → HasSheet source sheet → AllStand sheet.items
  text-stands source sheet has = laws.standing source has.0 sheet has.1.reads has.1.formed has.2

  pub text-plain : (source : List ℕ) (sheet : Sheet) → HasSheet source sheet → IsTrue (list_all is_plain_item sheet.items)
  text-plain source sheet has =
      laws.plain has.0 sheet has.2 has.1.formed (words-spelled laws.names source (words_all has.0) has.1.reads) (laws.read source has.0 has.1.reads)

  -- two sheets of one text are the same, places aside
  pub one-sheet : (text : List ℕ) (a b : Sheet) → HasSheet text a → HasSheet text b → bare_sheet a ≡ bare_sheet b
  one-sheet text a b p q =
      let words = laws.one text (words_all p.0) (words_all q.0) p.1.reads q.1.reads in
      let same = sym (ap (option_map bare_sheet) p.2) ∙ laws.places p.0 q.0 words p.1.formed q.1.formed ∙ ap (option_map bare_sheet) q.2 in
      cc same

-- Items that are printed.

-- what is ensured of them, and of what items say that are the same but for places, and for rules that declare nothing
pub record PrintLaws : Type 0 where
  pub one : (text : List ℕ) (a b : Sheet) → HasSheet text a → HasSheet text b → bare_sheet a ≡ bare_sheet b
  pub reads : (items : List Item) → ArePrintable items → AllStand items → Reads (items_text items) (words_all (items_again items))
  pub formed : (items : List Item) → ArePrintable items → IsTrue (all_formed (items_again items))
  pub same : (items : List Item) → ArePrintable items → option_map bare_sheet (sheet_of (items_again items)) ≡ Some (importless (filled_items (bare_items items)))
  pub alike : (a b : List Item) (c : Context) → bare_items a ≡ bare_items b → say_all a c ≡ say_all b c
  pub filled : (a b : List Item) (c : Context) → bare_items a ≡ filled_items (bare_items b) → say_all a c ≡ say_all b c

-- the sheet of which this was made
sheet_behind : (o : Option Sheet) (made : Sheet) → option_map bare_sheet o ≡ Some made → (sheet : Sheet) × (o ≡ Some sheet) × (bare_sheet sheet ≡ made)
sheet_behind None made e = absurd (cc e)
sheet_behind (Some sheet) made e = (sheet, refl, cc e)

abbrev items_of : Sheet → List Item
items_of sheet = sheet.items

module _ (laws : PrintLaws) where
  pub printed-read : (items : List Item) → ArePrintable items → AllStand items → ReadsAsItems (items_text items) items
  printed-read items printable stand =
      let again = sheet_behind (sheet_of (items_again items)) (importless (filled_items (bare_items items))) (laws.same items printable) in
      let written : HasSheet (items_text items) again.0 = (items_again items, record { reads = laws.reads items printable stand; formed = laws.formed items printable }, again.1) in
      record {
        readable = (again.0, written);
        same = λ sheet is_read. laws.one (items_text items) sheet again.0 is_read written ∙ again.2;
      }

  -- each sheet of the source says what this one says, and each sheet of the text what the items say
  pub read-keeps : (source text : List ℕ) (sheet : Sheet) (items : List Item) → HasSheet source sheet → ReadsAsItems text items → SameWinners (statements_of sheet) (say_all items outside) → KeepsWinners source text
  read-keeps source text sheet items has read kept = record {
    readable = read.readable;
    same = λ old new is_old is_new.
        let before : statements_of sheet ≡ statements_of old = laws.alike sheet.items old.items outside (ap items_of (laws.one source sheet old has is_old)) in
        let behind : say_all items outside ≡ statements_of new = sym (laws.filled new.items items outside (ap items_of (read.same new is_new))) in
        subst (λ ss. SameWinners ss (statements_of new)) before (subst (SameWinners (statements_of sheet)) behind kept);
  }
