use Rattle.std.proofs.Common.{subst, sym}
use Rattle.cascade_spec.specs.Readings.{ReadsAsItems}
use Rattle.csslower.proofs.LoweredTexts.{PrintLaws, has-sheet, lowered-read}
use Rattle.csslower.proofs.one_file.rewrite.Goals as goal

pub lowered-requires : goal.lowered-requires
lowered-requires c = (c.args.bytes.now, has-sheet c.args.bytes.now c.in_ok-sheet.sheet c.in_ok-sheet.ensures.spelled)

pub returns-clause-kept : goal.returns-clause-kept
returns-clause-kept c =
    let bytes = c.args.bytes.now in
    let sheet = c.in_ok-sheet.sheet in
    let made = c.in_ok-made.made in
    let has = has-sheet bytes sheet c.in_ok-sheet.ensures.spelled in
    let laws : PrintLaws = record {
      importless = c.clean_sheets_are_whole.ensures.importless;
      whole = c.clean_sheets_are_whole.ensures.whole;
      printable = c.sheets_of_texts.ensures.printable;
      stand = c.sheets_of_texts.ensures.stand;
      still_printable = c.lowered_items_are_printable.ensures.printable;
      still_stand = c.lowered_items_are_printable.ensures.stand;
      read = c.printed_items_are_read.ensures.read;
    } in
    let read = lowered-read laws bytes sheet made c.in_ok-text.text has c.in_ok-_clean.ensures.nothing c.in_ok-made.ensures.items c.in_ok-made.ensures.imports c.in_ok-text.ensures in
    c.printed_items_are_read.ensures.kept bytes c.in_ok-text.text sheet made.items has (subst (ReadsAsItems c.in_ok-text.text) (sym c.in_ok-made.ensures.items) read) c.in_ok-made.ensures.kept

pub returns-clause-target : goal.returns-clause-target
returns-clause-target c =
    let bytes = c.args.bytes.now in
    let sheet = c.in_ok-sheet.sheet in
    let has = has-sheet bytes sheet c.in_ok-sheet.ensures.spelled in
    let laws : PrintLaws = record {
      importless = c.clean_sheets_are_whole.ensures.importless;
      whole = c.clean_sheets_are_whole.ensures.whole;
      printable = c.sheets_of_texts.ensures.printable;
      stand = c.sheets_of_texts.ensures.stand;
      still_printable = c.lowered_items_are_printable.ensures.printable;
      still_stand = c.lowered_items_are_printable.ensures.stand;
      read = c.printed_items_are_read.ensures.read;
    } in
    c.lowered_sheets_are_targets.ensures bytes c.in_ok-text.text sheet has c.in_ok-_clean.ensures.nothing
    (lowered-read laws bytes sheet c.in_ok-made.made c.in_ok-text.text has c.in_ok-_clean.ensures.nothing c.in_ok-made.ensures.items c.in_ok-made.ensures.imports c.in_ok-text.ensures)
