use Rattle.std.proofs.Common.{rules}
use Rattle.std.specs.Str.{chars}
use lib.Utf8.{encode}
use Rattle.media_clauses.proofs.Computing.{computing}
use Rattle.media_clauses.proofs.examples.clauses_of_conditions.Goals as goal

pub returns-clause-both : goal.returns-clause-both
unfolding chars encode
returns-clause-both c = simp computing (search (rules, computing))

pub returns-clause-not_both : goal.returns-clause-not_both
unfolding chars encode
returns-clause-not_both c = simp computing (search (rules, computing))

pub returns-clause-either : goal.returns-clause-either
unfolding chars encode
returns-clause-either c = simp computing (search (rules, computing))

pub returns-clause-neither : goal.returns-clause-neither
unfolding chars encode
returns-clause-neither c = simp computing (search (rules, computing))

pub returns-clause-three : goal.returns-clause-three
unfolding chars encode
returns-clause-three c = simp computing (search (rules, computing))

pub returns-clause-product : goal.returns-clause-product
unfolding chars encode
returns-clause-product c = simp computing (search (rules, computing))

pub returns-clause-product_of_bounds : goal.returns-clause-product_of_bounds
unfolding chars encode
returns-clause-product_of_bounds c = simp computing (search (rules, computing))

pub returns-clause-inside_one_another : goal.returns-clause-inside_one_another
unfolding chars encode
returns-clause-inside_one_another c = simp computing (search (rules, computing))

pub returns-clause-negation_of_a_negation : goal.returns-clause-negation_of_a_negation
unfolding chars encode
returns-clause-negation_of_a_negation c = simp computing (search (rules, computing))
