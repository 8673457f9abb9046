use Rattle.cascade_spec.proofs.KeepsLemmas.{PrintLaws, printed-read, read-keeps}
use Rattle.cascade_spec.proofs.laws.printed_items_are_read.Goals as goal

pub returns : goal.returns
returns c =
    let again = c.sheets_are_read_again.ensures in
    let laws : PrintLaws = record {
      one = c.sheets_of_texts.ensures.one;
      reads = again.reads;
      formed = again.formed;
      same = again.same;
      alike = c.bare_items_say.ensures.same;
      filled = c.bare_items_say.ensures.filled;
    } in
    record { read = printed-read laws; kept = read-keeps laws }
