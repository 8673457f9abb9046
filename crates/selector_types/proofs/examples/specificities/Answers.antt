use Rattle.std.proofs.Common.{rules}
use Rattle.selector_types.proofs.Computing.{computing}
use Rattle.selector_types.proofs.examples.specificities.Goals as goal

pub returns-clause-universal : goal.returns-clause-universal
returns-clause-universal c = simp computing (search (rules, computing))

pub returns-clause-type_name : goal.returns-clause-type_name
returns-clause-type_name c = simp computing (search (rules, computing))

pub returns-clause-descendant : goal.returns-clause-descendant
returns-clause-descendant c = simp computing (search (rules, computing))

pub returns-clause-class_name : goal.returns-clause-class_name
returns-clause-class_name c = simp computing (search (rules, computing))

pub returns-clause-id_name : goal.returns-clause-id_name
returns-clause-id_name c = simp computing (search (rules, computing))

pub returns-clause-attribute_as_a_class : goal.returns-clause-attribute_as_a_class
returns-clause-attribute_as_a_class c = simp computing (search (rules, computing))

pub returns-clause-pseudo_class : goal.returns-clause-pseudo_class
returns-clause-pseudo_class c = simp computing (search (rules, computing))

pub returns-clause-pseudo_element_as_a_type : goal.returns-clause-pseudo_element_as_a_type
returns-clause-pseudo_element_as_a_type c = simp computing (search (rules, computing))

pub returns-clause-states_as_classes : goal.returns-clause-states_as_classes
returns-clause-states_as_classes c = simp computing (search (rules, computing))

pub returns-clause-parent_as_the_list_around : goal.returns-clause-parent_as_the_list_around
returns-clause-parent_as_the_list_around c = simp computing (search (rules, computing))

pub returns-clause-foreign : goal.returns-clause-foreign
returns-clause-foreign c = simp computing (search (rules, computing))

pub returns-clause-local : goal.returns-clause-local
returns-clause-local c = simp computing (search (rules, computing))

pub returns-clause-global : goal.returns-clause-global
returns-clause-global c = simp computing (search (rules, computing))
