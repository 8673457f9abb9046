use Rattle.std.proofs.Common.{rules}
use Rattle.std.specs.Str.{chars}
use lib.Utf8.{encode}
use Rattle.sheet_types.proofs.Computing.{computing}
use Rattle.sheet_types.proofs.examples.at_rules_say.Goals as goal

pub returns-clause-group : goal.returns-clause-group
returns-clause-group c = simp computing (search (rules, computing))

pub returns-clause-two_groups : goal.returns-clause-two_groups
returns-clause-two_groups c = simp computing (search (rules, computing))

pub returns-clause-condition_at_zero : goal.returns-clause-condition_at_zero
returns-clause-condition_at_zero c = simp computing (search (rules, computing))

pub returns-clause-rule_that_is_passed_on : goal.returns-clause-rule_that_is_passed_on
unfolding chars encode
returns-clause-rule_that_is_passed_on c = simp computing (search (rules, computing))

pub returns-clause-other : goal.returns-clause-other
returns-clause-other c = simp computing (search (rules, computing))
