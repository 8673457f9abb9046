use Rattle.std.proofs.Common.{rules}
use Rattle.std.specs.Str.{chars}
use lib.Utf8.{encode}
use Rattle.media_tree.proofs.Computing.{computing}
use Rattle.media_tree.proofs.examples.query_readings.Goals as goal

pub returns-clause-nothing : goal.returns-clause-nothing
unfolding chars encode
returns-clause-nothing c = simp computing (search (rules, computing))

pub returns-clause-type_in_capitals : goal.returns-clause-type_in_capitals
unfolding chars encode
returns-clause-type_in_capitals c = simp computing (search (rules, computing))

pub returns-clause-prefix : goal.returns-clause-prefix
unfolding chars encode
returns-clause-prefix c = simp computing (search (rules, computing))

pub returns-clause-only_prefix : goal.returns-clause-only_prefix
unfolding chars encode
returns-clause-only_prefix c = simp computing (search (rules, computing))

pub returns-clause-two_queries : goal.returns-clause-two_queries
unfolding chars encode
returns-clause-two_queries c = simp computing (search (rules, computing))

pub returns-clause-negation : goal.returns-clause-negation
unfolding chars encode
returns-clause-negation c = simp computing (search (rules, computing))

pub returns-clause-three_joined : goal.returns-clause-three_joined
unfolding chars encode
returns-clause-three_joined c = simp computing (search (rules, computing))

pub returns-clause-alternatives : goal.returns-clause-alternatives
unfolding chars encode
returns-clause-alternatives c = simp computing (search (rules, computing))

pub returns-clause-behind_a_type : goal.returns-clause-behind_a_type
unfolding chars encode
returns-clause-behind_a_type c = simp computing (search (rules, computing))

pub returns-clause-negation_behind_a_type : goal.returns-clause-negation_behind_a_type
unfolding chars encode
returns-clause-negation_behind_a_type c = simp computing (search (rules, computing))

pub returns-clause-further_parentheses : goal.returns-clause-further_parentheses
unfolding chars encode
returns-clause-further_parentheses c = simp computing (search (rules, computing))

pub returns-clause-nested : goal.returns-clause-nested
unfolding chars encode
returns-clause-nested c = simp computing (search (rules, computing))

pub returns-clause-not_as_a_feature : goal.returns-clause-not_as_a_feature
unfolding chars encode
returns-clause-not_as_a_feature c = simp computing (search (rules, computing))
