use Rattle.std.proofs.Common.{rules}
use Rattle.std.specs.Str.{chars}
use lib.Utf8.{encode}
use Rattle.cascade_spec.proofs.TruthComputing.{truths}
use Rattle.cascade_spec.proofs.examples.truth.features_hold.Goals as goal

pub returns-clause-same_number : goal.returns-clause-same_number
unfolding chars encode
returns-clause-same_number c = simp truths (search (rules, truths))

pub returns-clause-other_number : goal.returns-clause-other_number
unfolding chars encode
returns-clause-other_number c = simp truths (search (rules, truths))

pub returns-clause-more_than_the_least : goal.returns-clause-more_than_the_least
unfolding chars encode
returns-clause-more_than_the_least c = simp truths (search (rules, truths))

pub returns-clause-least_itself : goal.returns-clause-least_itself
unfolding chars encode
returns-clause-least_itself c = simp truths (search (rules, truths))

pub returns-clause-less_than_the_least : goal.returns-clause-less_than_the_least
unfolding chars encode
returns-clause-less_than_the_least c = simp truths (search (rules, truths))

pub returns-clause-less_than_the_most : goal.returns-clause-less_than_the_most
unfolding chars encode
returns-clause-less_than_the_most c = simp truths (search (rules, truths))

pub returns-clause-most_itself : goal.returns-clause-most_itself
unfolding chars encode
returns-clause-most_itself c = simp truths (search (rules, truths))

pub returns-clause-more_than_the_most : goal.returns-clause-more_than_the_most
unfolding chars encode
returns-clause-more_than_the_most c = simp truths (search (rules, truths))

pub returns-clause-first_number_of_a_name : goal.returns-clause-first_number_of_a_name
unfolding chars encode
returns-clause-first_number_of_a_name c = simp truths (search (rules, truths))

pub returns-clause-no_number_is_0 : goal.returns-clause-no_number_is_0
unfolding chars encode
returns-clause-no_number_is_0 c = simp truths (search (rules, truths))

pub returns-clause-value_without_a_number_is_0 : goal.returns-clause-value_without_a_number_is_0
unfolding chars encode
returns-clause-value_without_a_number_is_0 c = simp truths (search (rules, truths))

pub returns-clause-boolean : goal.returns-clause-boolean
unfolding chars encode
returns-clause-boolean c = simp truths (search (rules, truths))

pub returns-clause-boolean_by_the_list_alone : goal.returns-clause-boolean_by_the_list_alone
unfolding chars encode
returns-clause-boolean_by_the_list_alone c = simp truths (search (rules, truths))

pub returns-clause-listed : goal.returns-clause-listed
unfolding chars encode
returns-clause-listed c = simp truths (search (rules, truths))

pub returns-clause-listed_with_another_value : goal.returns-clause-listed_with_another_value
unfolding chars encode
returns-clause-listed_with_another_value c = simp truths (search (rules, truths))

pub returns-clause-listed_without_a_value : goal.returns-clause-listed_without_a_value
unfolding chars encode
returns-clause-listed_without_a_value c = simp truths (search (rules, truths))

pub returns-clause-prefix_of_a_name_without_a_range : goal.returns-clause-prefix_of_a_name_without_a_range
unfolding chars encode
returns-clause-prefix_of_a_name_without_a_range c = simp truths (search (rules, truths))

pub returns-clause-prefix_in_the_boolean_context : goal.returns-clause-prefix_in_the_boolean_context
unfolding chars encode
returns-clause-prefix_in_the_boolean_context c = simp truths (search (rules, truths))
