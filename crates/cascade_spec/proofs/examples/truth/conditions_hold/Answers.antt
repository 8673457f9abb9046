use Rattle.std.proofs.Common.{rules}
use Rattle.std.specs.Str.{chars}
use lib.Utf8.{encode}
use Rattle.cascade_spec.proofs.TruthComputing.{truths}
use Rattle.cascade_spec.proofs.examples.truth.conditions_hold.Goals as goal

pub returns-clause-both : goal.returns-clause-both
unfolding chars encode
returns-clause-both c = simp truths (search (rules, truths))

pub returns-clause-one_alone : goal.returns-clause-one_alone
unfolding chars encode
returns-clause-one_alone c = simp truths (search (rules, truths))

pub returns-clause-either : goal.returns-clause-either
unfolding chars encode
returns-clause-either c = simp truths (search (rules, truths))

pub returns-clause-neither : goal.returns-clause-neither
unfolding chars encode
returns-clause-neither c = simp truths (search (rules, truths))

pub returns-clause-negation : goal.returns-clause-negation
unfolding chars encode
returns-clause-negation c = simp truths (search (rules, truths))

pub returns-clause-negation_of_a_condition : goal.returns-clause-negation_of_a_condition
unfolding chars encode
returns-clause-negation_of_a_condition c = simp truths (search (rules, truths))

pub returns-clause-negation_of_a_negation : goal.returns-clause-negation_of_a_negation
unfolding chars encode
returns-clause-negation_of_a_negation c = simp truths (search (rules, truths))
