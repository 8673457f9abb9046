use Rattle.media_clauses.proofs.LoweredLemmas.{lowered-holds}
use Rattle.media_clauses.proofs.laws.lowered_lists_hold.Goals as goal

pub returns : goal.returns
returns c = lowered-holds
