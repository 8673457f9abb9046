use Rattle.std.proofs.Common.{rules}
use Rattle.std.specs.Str.{chars}
use lib.Utf8.{encode}
use Rattle.css_rules.proofs.Computing.{at_rules}
use Rattle.css_rules.proofs.examples.at_rules.at_rules_are_refused.Goals as goal

pub returns-clause-no_query : goal.returns-clause-no_query
unfolding chars encode
returns-clause-no_query c = simp at_rules (search (rules, at_rules))

pub returns-clause-in_a_group : goal.returns-clause-in_a_group
unfolding chars encode
returns-clause-in_a_group c = simp at_rules (search (rules, at_rules))

pub returns-clause-in_a_rule_that_is_passed_on : goal.returns-clause-in_a_rule_that_is_passed_on
unfolding chars encode
returns-clause-in_a_rule_that_is_passed_on c = simp at_rules (search (rules, at_rules))
