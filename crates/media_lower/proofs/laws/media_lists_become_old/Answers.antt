use Rattle.media_lower.proofs.OldLists.{becomes-old}
use Rattle.media_lower.proofs.laws.media_lists_become_old.Goals as goal

pub returns : goal.returns
returns c = becomes-old c.lowered_lists_are_old.ensures
