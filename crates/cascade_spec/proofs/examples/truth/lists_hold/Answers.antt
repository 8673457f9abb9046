use Rattle.std.proofs.Common.{rules}
use Rattle.std.specs.Str.{chars}
use lib.Utf8.{encode}
use Rattle.cascade_spec.proofs.TruthComputing.{truths}
use Rattle.cascade_spec.proofs.examples.truth.lists_hold.Goals as goal

pub returns-clause-type_and_condition : goal.returns-clause-type_and_condition
unfolding chars encode
returns-clause-type_and_condition c = simp truths (search (rules, truths))

pub returns-clause-type_alone : goal.returns-clause-type_alone
unfolding chars encode
returns-clause-type_alone c = simp truths (search (rules, truths))

pub returns-clause-negation_of_what_holds : goal.returns-clause-negation_of_what_holds
unfolding chars encode
returns-clause-negation_of_what_holds c = simp truths (search (rules, truths))

pub returns-clause-negation_of_what_holds_in_part : goal.returns-clause-negation_of_what_holds_in_part
unfolding chars encode
returns-clause-negation_of_what_holds_in_part c = simp truths (search (rules, truths))

pub returns-clause-condition_without_a_type : goal.returns-clause-condition_without_a_type
unfolding chars encode
returns-clause-condition_without_a_type c = simp truths (search (rules, truths))
