use Rattle.std.proofs.Common.{rules}
use Rattle.std.specs.Str.{chars}
use lib.Utf8.{encode}
use Rattle.findings.proofs.Computing.{computing}
use Rattle.findings.proofs.examples.clauses_and_faults.Goals as goal

pub returns-clause-plain_queries : goal.returns-clause-plain_queries
unfolding chars encode
returns-clause-plain_queries c = simp computing (search (rules, computing))

pub returns-clause-one_clause : goal.returns-clause-one_clause
unfolding chars encode
returns-clause-one_clause c = simp computing (search (rules, computing))

pub returns-clause-two_bounds : goal.returns-clause-two_bounds
unfolding chars encode
returns-clause-two_bounds c = simp computing (search (rules, computing))

pub returns-clause-product : goal.returns-clause-product
unfolding chars encode
returns-clause-product c = simp computing (search (rules, computing))
