use Rattle.std.proofs.Common.{rules}
use Rattle.std.specs.Str.{chars}
use lib.Utf8.{encode}
use Rattle.css_rules.proofs.Computing.{at_rules}
use Rattle.css_rules.proofs.examples.at_rules.at_rules_are_spelled.Goals as goal

pub returns-clause-group : goal.returns-clause-group
unfolding chars encode
returns-clause-group c = simp at_rules (search (rules, at_rules))

pub returns-clause-group_in_a_group : goal.returns-clause-group_in_a_group
unfolding chars encode
returns-clause-group_in_a_group c = simp at_rules (search (rules, at_rules))

pub returns-clause-rule_that_is_passed_on : goal.returns-clause-rule_that_is_passed_on
unfolding chars encode
returns-clause-rule_that_is_passed_on c = simp at_rules (search (rules, at_rules))

pub returns-clause-url_in_a_rule_that_is_passed_on : goal.returns-clause-url_in_a_rule_that_is_passed_on
unfolding chars encode
returns-clause-url_in_a_rule_that_is_passed_on c = simp at_rules (search (rules, at_rules))
