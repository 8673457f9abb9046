use Rattle.media_lower.proofs.PlainTaken.{items-taken}
use Rattle.media_lower.proofs.laws.plain_items_are_taken.Goals as goal

pub returns : goal.returns
returns c = items-taken c.ranges_that_are_read_are_known.ensures.readable
