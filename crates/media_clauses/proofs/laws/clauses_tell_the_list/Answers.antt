use Rattle.media_clauses.proofs.SideLemmas.{list-clauses}
use Rattle.media_clauses.proofs.laws.clauses_tell_the_list.Goals as goal

pub returns : goal.returns
returns c = list-clauses
