use Rattle.media_clauses.proofs.ReadableLists.{lowered-readable}
use Rattle.media_clauses.proofs.StandingLists.{lowered-stand}
use Rattle.media_clauses.proofs.laws.lowered_lists_are_readable.Goals as goal

pub returns : goal.returns
returns c = record { readable = lowered-readable; values = lowered-stand }
