use Rattle.std.proofs.Common.{rules}
use Rattle.target_check.proofs.Computing.{computing}
use Rattle.target_check.proofs.examples.simple_selectors.Goals as goal

pub returns-clause-class_name : goal.returns-clause-class_name
returns-clause-class_name c = simp computing (search (rules, computing))

pub returns-clause-pseudo_class : goal.returns-clause-pseudo_class
returns-clause-pseudo_class c = simp computing (search (rules, computing))

pub returns-clause-attribute_alone : goal.returns-clause-attribute_alone
returns-clause-attribute_alone c = simp computing (search (rules, computing))

pub returns-clause-flag : goal.returns-clause-flag
returns-clause-flag c = simp computing (search (rules, computing))

pub returns-clause-not_of_a_class : goal.returns-clause-not_of_a_class
returns-clause-not_of_a_class c = simp computing (search (rules, computing))

pub returns-clause-not_of_two : goal.returns-clause-not_of_two
returns-clause-not_of_two c = simp computing (search (rules, computing))

pub returns-clause-not_of_a_local_class : goal.returns-clause-not_of_a_local_class
returns-clause-not_of_a_local_class c = simp computing (search (rules, computing))

pub returns-clause-is_of_one : goal.returns-clause-is_of_one
returns-clause-is_of_one c = simp computing (search (rules, computing))

pub returns-clause-where_of_one : goal.returns-clause-where_of_one
returns-clause-where_of_one c = simp computing (search (rules, computing))

pub returns-clause-parent : goal.returns-clause-parent
returns-clause-parent c = simp computing (search (rules, computing))

pub returns-clause-local : goal.returns-clause-local
returns-clause-local c = simp computing (search (rules, computing))

pub returns-clause-global : goal.returns-clause-global
returns-clause-global c = simp computing (search (rules, computing))

pub returns-clause-foreign : goal.returns-clause-foreign
returns-clause-foreign c = simp computing (search (rules, computing))

pub returns-clause-flag_within : goal.returns-clause-flag_within
returns-clause-flag_within c = simp computing (search (rules, computing))
