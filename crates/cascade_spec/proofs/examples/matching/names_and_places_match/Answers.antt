use Rattle.std.proofs.Common.{rules}
use Rattle.cascade_spec.specs.SelectorSamples.{matched, selector_holds}
use Rattle.cascade_spec.proofs.Computing.{computing}
use Rattle.cascade_spec.proofs.examples.matching.names_and_places_match.Goals as goal

pub returns-clause-type_in_another_case : goal.returns-clause-type_in_another_case
returns-clause-type_in_another_case c = simp (computing, matched, selector_holds) (search (rules, computing))

pub returns-clause-class_in_another_case : goal.returns-clause-class_in_another_case
returns-clause-class_in_another_case c = simp (computing, matched, selector_holds) (search (rules, computing))

pub returns-clause-id_in_another_case : goal.returns-clause-id_in_another_case
returns-clause-id_in_another_case c = simp (computing, matched, selector_holds) (search (rules, computing))

pub returns-clause-class_is_no_id : goal.returns-clause-class_is_no_id
returns-clause-class_is_no_id c = simp (computing, matched, selector_holds) (search (rules, computing))

pub returns-clause-type_is_no_class : goal.returns-clause-type_is_no_class
returns-clause-type_is_no_class c = simp (computing, matched, selector_holds) (search (rules, computing))

pub returns-clause-second_class : goal.returns-clause-second_class
returns-clause-second_class c = simp (computing, matched, selector_holds) (search (rules, computing))

pub returns-clause-later_not_of_itself : goal.returns-clause-later_not_of_itself
returns-clause-later_not_of_itself c = simp (computing, matched, selector_holds) (search (rules, computing))

pub returns-clause-next_is_not_further : goal.returns-clause-next_is_not_further
returns-clause-next_is_not_further c = simp (computing, matched, selector_holds) (search (rules, computing))

pub returns-clause-later_is_further : goal.returns-clause-later_is_further
returns-clause-later_is_further c = simp (computing, matched, selector_holds) (search (rules, computing))

pub returns-clause-later_without_parents : goal.returns-clause-later_without_parents
returns-clause-later_without_parents c = simp (computing, matched, selector_holds) (search (rules, computing))

pub returns-clause-no_child_of_a_sibling : goal.returns-clause-no_child_of_a_sibling
returns-clause-no_child_of_a_sibling c = simp (computing, matched, selector_holds) (search (rules, computing))

pub returns-clause-child_of_a_child : goal.returns-clause-child_of_a_child
returns-clause-child_of_a_child c = simp (computing, matched, selector_holds) (search (rules, computing))

pub returns-clause-of_a_great_grandparent : goal.returns-clause-of_a_great_grandparent
returns-clause-of_a_great_grandparent c = simp (computing, selector_holds) (search (rules, computing))

pub returns-clause-of_the_outer_of_two : goal.returns-clause-of_the_outer_of_two
returns-clause-of_the_outer_of_two c = simp (computing, selector_holds) (search (rules, computing))

pub returns-clause-of_the_inner_of_two : goal.returns-clause-of_the_inner_of_two
returns-clause-of_the_inner_of_two c = simp (computing, selector_holds) (search (rules, computing))

pub returns-clause-only_of_the_outer : goal.returns-clause-only_of_the_outer
returns-clause-only_of_the_outer c = simp (computing, selector_holds) (search (rules, computing))
