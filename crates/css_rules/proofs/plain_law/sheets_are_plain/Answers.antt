use Rattle.std.proofs.Common.{◌++◌}
use Rattle.css_rules.proofs.PlainRules.{sheet-plain}
use Rattle.css_rules.proofs.StandLists.{ReadingLaws}
use Rattle.css_rules.proofs.plain_law.sheets_are_plain.Goals as goal

pub returns : goal.returns
returns c =
    let again = c.values_again.ensures in
    let reading : ReadingLaws = record { front = again.front; back = again.back; stops = again.stops; bang_gap = λ w rest first gap. again.bang (w.text ++ rest) (again.gap w rest first gap) } in
    sheet-plain (record { words = again.words_spelled; queries = c.queries_that_are_read_are_readable.ensures.readable; reading = reading })
