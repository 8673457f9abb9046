use Rattle.std.proofs.Common.{◌++◌, false}
use Rattle.css_rules.proofs.ConditionsRead.{ConditionLaws}
use Rattle.css_rules.proofs.FromSourceRules.{sheet-printable}
use Rattle.css_rules.proofs.StandLists.{ReadingLaws}
use Rattle.css_rules.proofs.sheet_laws.sheets_are_printable.Goals as goal

pub returns : goal.returns
returns c =
    let again = c.values_again.ensures in
    let queries = c.queries_that_are_read_are_readable.ensures in
    let reading : ReadingLaws = record { front = again.front; back = again.back; stops = again.stops; bang_gap = λ w rest first gap. again.bang (w.text ++ rest) (again.gap w rest first gap) } in
    let conditions : ConditionLaws = record { words = again.words_spelled; queries = queries.readable; values = queries.values; supports = c.supports_that_are_read_are_readable.ensures.reading } in
    sheet-printable (record { lists = λ cs ss. c.selectors_are_read_again.ensures.readable false cs 0 ss; conditions = conditions; reading = reading })
