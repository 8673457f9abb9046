use Rattle.std.proofs.Common.{rules}
use Rattle.cascade_spec.specs.SelectorSamples.{matched, selector_holds}
use Rattle.cascade_spec.proofs.Computing.{computing}
use Rattle.cascade_spec.proofs.examples.matching.selectors_match.Goals as goal

pub returns-clause-universal : goal.returns-clause-universal
returns-clause-universal c = simp (computing, matched, selector_holds) (search (rules, computing))

pub returns-clause-type_name : goal.returns-clause-type_name
returns-clause-type_name c = simp (computing, matched, selector_holds) (search (rules, computing))

pub returns-clause-class_name : goal.returns-clause-class_name
returns-clause-class_name c = simp (computing, matched, selector_holds) (search (rules, computing))

pub returns-clause-id_name : goal.returns-clause-id_name
returns-clause-id_name c = simp (computing, matched, selector_holds) (search (rules, computing))

pub returns-clause-id_is_no_class : goal.returns-clause-id_is_no_class
returns-clause-id_is_no_class c = simp (computing, matched, selector_holds) (search (rules, computing))

pub returns-clause-front_of_a_name : goal.returns-clause-front_of_a_name
returns-clause-front_of_a_name c = simp (computing, matched, selector_holds) (search (rules, computing))

pub returns-clause-compound : goal.returns-clause-compound
returns-clause-compound c = simp (computing, matched, selector_holds) (search (rules, computing))

pub returns-clause-two_classes : goal.returns-clause-two_classes
returns-clause-two_classes c = simp (computing, matched, selector_holds) (search (rules, computing))

pub returns-clause-descendant : goal.returns-clause-descendant
returns-clause-descendant c = simp (computing, matched, selector_holds) (search (rules, computing))

pub returns-clause-not_of_itself : goal.returns-clause-not_of_itself
returns-clause-not_of_itself c = simp (computing, matched, selector_holds) (search (rules, computing))

pub returns-clause-child : goal.returns-clause-child
returns-clause-child c = simp (computing, matched, selector_holds) (search (rules, computing))

pub returns-clause-no_grandchild : goal.returns-clause-no_grandchild
returns-clause-no_grandchild c = simp (computing, matched, selector_holds) (search (rules, computing))

pub returns-clause-next : goal.returns-clause-next
returns-clause-next c = simp (computing, matched, selector_holds) (search (rules, computing))

pub returns-clause-next_of_a_kind : goal.returns-clause-next_of_a_kind
returns-clause-next_of_a_kind c = simp (computing, matched, selector_holds) (search (rules, computing))

pub returns-clause-later : goal.returns-clause-later
returns-clause-later c = simp (computing, matched, selector_holds) (search (rules, computing))

pub returns-clause-not_earlier : goal.returns-clause-not_earlier
returns-clause-not_earlier c = simp (computing, matched, selector_holds) (search (rules, computing))

pub returns-clause-without_parents_are_siblings : goal.returns-clause-without_parents_are_siblings
returns-clause-without_parents_are_siblings c = simp (computing, matched, selector_holds) (search (rules, computing))

pub returns-clause-no_sibling_of_another_parent : goal.returns-clause-no_sibling_of_another_parent
returns-clause-no_sibling_of_another_parent c = simp (computing, matched, selector_holds) (search (rules, computing))

pub returns-clause-later_then_descendant : goal.returns-clause-later_then_descendant
returns-clause-later_then_descendant c = simp (computing, matched, selector_holds) (search (rules, computing))

pub returns-clause-next_then_descendant : goal.returns-clause-next_then_descendant
returns-clause-next_then_descendant c = simp (computing, matched, selector_holds) (search (rules, computing))

pub returns-clause-no_element : goal.returns-clause-no_element
returns-clause-no_element c = simp (computing, selector_holds) (search (rules, computing))

pub returns-clause-no_pseudo_element : goal.returns-clause-no_pseudo_element
returns-clause-no_pseudo_element c = simp (computing, selector_holds) (search (rules, computing))

pub returns-clause-no_parent_rule : goal.returns-clause-no_parent_rule
returns-clause-no_parent_rule c = simp (computing, matched, selector_holds) (search (rules, computing))
