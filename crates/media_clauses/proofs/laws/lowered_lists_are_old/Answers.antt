use Rattle.media_clauses.proofs.TargetLemmas.{lowered-target}
use Rattle.media_clauses.proofs.laws.lowered_lists_are_old.Goals as goal

pub returns : goal.returns
returns c = lowered-target
