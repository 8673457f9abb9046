use Rattle.media_lower.proofs.ItemsPrintable.{items-printable, items-stand}
use Rattle.media_lower.proofs.laws.lowered_items_are_printable.Goals as goal

pub returns : goal.returns
returns c =
    let lists = c.lowered_lists_are_readable.ensures in
    record { printable = items-printable (record { readable = lists.readable; values = lists.values }); stand = items-stand }
