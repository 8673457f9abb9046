use Rattle.media_tree.proofs.QueriesBegin.{queries-begin}
use Rattle.media_tree.proofs.SupportsBegin.{supports-begin}
use Rattle.media_tree.proofs.laws.texts_begin_solid.Goals as goal

pub returns-clause-queries : goal.returns-clause-queries
returns-clause-queries c = queries-begin c.names_stay.ensures.white

pub returns-clause-supports : goal.returns-clause-supports
returns-clause-supports c = supports-begin
