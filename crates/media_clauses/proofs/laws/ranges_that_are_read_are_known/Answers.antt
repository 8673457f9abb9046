use Rattle.media_clauses.proofs.ReadableLemmas.{list-known}
use Rattle.media_clauses.proofs.ReadingLemmas.{read-known}
use Rattle.media_clauses.proofs.laws.ranges_that_are_read_are_known.Goals as goal

pub returns : goal.returns
returns c = record { read = read-known; readable = list-known }
