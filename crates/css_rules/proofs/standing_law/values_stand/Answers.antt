use Rattle.std.proofs.Common.{◌++◌}
use Rattle.css_rules.proofs.StandLists.{ReadingLaws}
use Rattle.css_rules.proofs.StandSheets.{sheet-stands}
use Rattle.css_rules.proofs.standing_law.values_stand.Goals as goal

pub returns : goal.returns
returns c =
    let again = c.values_again.ensures in
    let reading : ReadingLaws = record { front = again.front; back = again.back; stops = again.stops; bang_gap = λ w rest first gap. again.bang (w.text ++ rest) (again.gap w rest first gap) } in
    sheet-stands (record { reading = reading; spelled = c.texts_give_spelled_words.ensures.spelled; supports = c.supports_that_are_read_stand.ensures.reading })
