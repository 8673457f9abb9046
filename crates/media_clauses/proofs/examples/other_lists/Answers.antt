use Rattle.std.proofs.Common.{rules}
use Rattle.std.specs.Str.{chars}
use lib.Utf8.{encode}
use Rattle.media_clauses.proofs.Computing.{computing}
use Rattle.media_clauses.proofs.examples.other_lists.Goals as goal

pub returns-clause-two_queries : goal.returns-clause-two_queries
unfolding chars encode
returns-clause-two_queries c = simp computing (search (rules, computing))

pub returns-clause-not_the_query : goal.returns-clause-not_the_query
unfolding chars encode
returns-clause-not_the_query c = simp computing (search (rules, computing))

pub returns-clause-not_all : goal.returns-clause-not_all
unfolding chars encode
returns-clause-not_all c = simp computing (search (rules, computing))

pub returns-clause-product : goal.returns-clause-product
unfolding chars encode
returns-clause-product c = simp computing (search (rules, computing))
