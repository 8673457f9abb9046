use Rattle.std.proofs.Common.{rules}
use Rattle.std.specs.Str.{chars}
use lib.Utf8.{encode}
use Rattle.target_check.proofs.Computing.{computing}
use Rattle.target_check.proofs.examples.groups.Goals as goal

pub returns-clause-rule : goal.returns-clause-rule
unfolding chars encode
returns-clause-rule c = simp computing (search (rules, computing))

pub returns-clause-group_within : goal.returns-clause-group_within
unfolding chars encode
returns-clause-group_within c = simp computing (search (rules, computing))

pub returns-clause-nothing : goal.returns-clause-nothing
unfolding chars encode
returns-clause-nothing c = simp computing (search (rules, computing))

pub returns-clause-empty_group_within : goal.returns-clause-empty_group_within
unfolding chars encode
returns-clause-empty_group_within c = simp computing (search (rules, computing))

pub returns-clause-empty_rule_within : goal.returns-clause-empty_rule_within
unfolding chars encode
returns-clause-empty_rule_within c = simp computing (search (rules, computing))

pub returns-clause-declarations : goal.returns-clause-declarations
unfolding chars encode
returns-clause-declarations c = simp computing (search (rules, computing))

pub returns-clause-other_within : goal.returns-clause-other_within
unfolding chars encode
returns-clause-other_within c = simp computing (search (rules, computing))

pub returns-clause-no_query : goal.returns-clause-no_query
unfolding chars encode
returns-clause-no_query c = simp computing (search (rules, computing))

pub returns-clause-range : goal.returns-clause-range
unfolding chars encode
returns-clause-range c = simp computing (search (rules, computing))

pub returns-clause-not_of_a_declaration : goal.returns-clause-not_of_a_declaration
unfolding chars encode
returns-clause-not_of_a_declaration c = simp computing (search (rules, computing))

pub returns-clause-function : goal.returns-clause-function
unfolding chars encode
returns-clause-function c = simp computing (search (rules, computing))

pub returns-clause-passed_on : goal.returns-clause-passed_on
unfolding chars encode
returns-clause-passed_on c = simp computing (search (rules, computing))

pub returns-clause-other : goal.returns-clause-other
unfolding chars encode
returns-clause-other c = simp computing (search (rules, computing))

pub returns-clause-group_in_a_rule : goal.returns-clause-group_in_a_rule
unfolding chars encode
returns-clause-group_in_a_rule c = simp computing (search (rules, computing))
