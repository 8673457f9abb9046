use Rattle.std.proofs.Common.{rules}
use Rattle.std.specs.Str.{chars}
use lib.Utf8.{encode}
use Rattle.media_clauses.proofs.Computing.{computing}
use Rattle.media_clauses.proofs.examples.clauses_of_lists.Goals as goal

pub returns-clause-type_and_condition : goal.returns-clause-type_and_condition
unfolding chars encode
returns-clause-type_and_condition c = simp computing (search (rules, computing))

pub returns-clause-all_and_condition : goal.returns-clause-all_and_condition
unfolding chars encode
returns-clause-all_and_condition c = simp computing (search (rules, computing))

pub returns-clause-not_the_type_and_condition : goal.returns-clause-not_the_type_and_condition
unfolding chars encode
returns-clause-not_the_type_and_condition c = simp computing (search (rules, computing))

pub returns-clause-not_the_type_or_neither : goal.returns-clause-not_the_type_or_neither
unfolding chars encode
returns-clause-not_the_type_or_neither c = simp computing (search (rules, computing))

pub returns-clause-not_all_and_condition : goal.returns-clause-not_all_and_condition
unfolding chars encode
returns-clause-not_all_and_condition c = simp computing (search (rules, computing))

pub returns-clause-two_queries : goal.returns-clause-two_queries
unfolding chars encode
returns-clause-two_queries c = simp computing (search (rules, computing))

pub returns-clause-product : goal.returns-clause-product
unfolding chars encode
returns-clause-product c = simp computing (search (rules, computing))
