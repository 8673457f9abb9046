use Rattle.std.proofs.Common.{rules}
use Rattle.cascade_spec.proofs.Computing.{computing}
use Rattle.cascade_spec.proofs.examples.rules_are_dropped.Goals as goal

pub returns-clause-unknown : goal.returns-clause-unknown
returns-clause-unknown c = simp computing (search (rules, computing))

pub returns-clause-with_all_its_list : goal.returns-clause-with_all_its_list
returns-clause-with_all_its_list c = simp computing (search (rules, computing))

pub returns-clause-with_its_nested_rules : goal.returns-clause-with_its_nested_rules
returns-clause-with_its_nested_rules c = simp computing (search (rules, computing))

pub returns-clause-member_of_is_alone : goal.returns-clause-member_of_is_alone
returns-clause-member_of_is_alone c = simp computing (search (rules, computing))

pub returns-clause-important_too : goal.returns-clause-important_too
returns-clause-important_too c = simp computing (search (rules, computing))

pub returns-clause-of_a_pseudo_element : goal.returns-clause-of_a_pseudo_element
returns-clause-of_a_pseudo_element c = simp computing (search (rules, computing))

pub returns-clause-unknown_pseudo_element : goal.returns-clause-unknown_pseudo_element
returns-clause-unknown_pseudo_element c = simp computing (search (rules, computing))
