use Rattle.std.proofs.Common.{rules}
use Rattle.cascade_spec.proofs.Computing.{computing}
use Rattle.cascade_spec.proofs.examples.groups.groups_are_asked.Goals as goal

pub returns-clause-condition_holds : goal.returns-clause-condition_holds
returns-clause-condition_holds c = simp computing (search (rules, computing))

pub returns-clause-condition_fails : goal.returns-clause-condition_fails
returns-clause-condition_fails c = simp computing (search (rules, computing))

pub returns-clause-group_in_a_group : goal.returns-clause-group_in_a_group
returns-clause-group_in_a_group c = simp computing (search (rules, computing))

pub returns-clause-rule_behind_a_group : goal.returns-clause-rule_behind_a_group
returns-clause-rule_behind_a_group c = simp computing (search (rules, computing))

pub returns-clause-passed_rule : goal.returns-clause-passed_rule
returns-clause-passed_rule c = simp computing (search (rules, computing))
