use Rattle.media_clauses.proofs.ClauseTextLemmas.{clause-text}
use Rattle.media_clauses.proofs.laws.clauses_print_by_literals.Goals as goal

pub returns : goal.returns
returns c = clause-text
