use Rattle.std.proofs.Common.{rules}
use Rattle.cascade_spec.specs.SelectorSamples.{matched, selector_holds}
use Rattle.cascade_spec.proofs.Computing.{computing}
use Rattle.cascade_spec.proofs.examples.matching.pseudo_elements_match.Goals as goal

pub returns-clause-of_every_element : goal.returns-clause-of_every_element
returns-clause-of_every_element c = simp (computing, selector_holds) (search (rules, computing))

pub returns-clause-of_the_type : goal.returns-clause-of_the_type
returns-clause-of_the_type c = simp (computing, selector_holds) (search (rules, computing))

pub returns-clause-of_another_name : goal.returns-clause-of_another_name
returns-clause-of_another_name c = simp (computing, selector_holds) (search (rules, computing))

pub returns-clause-not_the_element : goal.returns-clause-not_the_element
returns-clause-not_the_element c = simp (computing, selector_holds) (search (rules, computing))

pub returns-clause-in_a_state : goal.returns-clause-in_a_state
returns-clause-in_a_state c = simp (computing, selector_holds) (search (rules, computing))

pub returns-clause-in_one_state_of_two : goal.returns-clause-in_one_state_of_two
returns-clause-in_one_state_of_two c = simp (computing, selector_holds) (search (rules, computing))

pub returns-clause-state_of_another : goal.returns-clause-state_of_another
returns-clause-state_of_another c = simp (computing, selector_holds) (search (rules, computing))

pub returns-clause-state_of_the_element_alone : goal.returns-clause-state_of_the_element_alone
returns-clause-state_of_the_element_alone c = simp (computing, selector_holds) (search (rules, computing))

pub returns-clause-of_an_element_in_a_state : goal.returns-clause-of_an_element_in_a_state
returns-clause-of_an_element_in_a_state c = simp (computing, selector_holds) (search (rules, computing))

pub returns-clause-of_an_element_in_no_such_state : goal.returns-clause-of_an_element_in_no_such_state
returns-clause-of_an_element_in_no_such_state c = simp (computing, selector_holds) (search (rules, computing))

pub returns-clause-of_a_child : goal.returns-clause-of_a_child
returns-clause-of_a_child c = simp (computing, selector_holds) (search (rules, computing))

pub returns-clause-no_child_of_a_pseudo_element : goal.returns-clause-no_child_of_a_pseudo_element
returns-clause-no_child_of_a_pseudo_element c = simp (computing, matched, selector_holds) (search (rules, computing))

pub returns-clause-of_the_parent : goal.returns-clause-of_the_parent
returns-clause-of_the_parent c = simp (computing, selector_holds) (search (rules, computing))

pub returns-clause-implied_before_it : goal.returns-clause-implied_before_it
returns-clause-implied_before_it c = simp (computing, selector_holds) (search (rules, computing))
