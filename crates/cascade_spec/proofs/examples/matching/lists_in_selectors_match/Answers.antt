use Rattle.std.proofs.Common.{rules}
use Rattle.cascade_spec.specs.SelectorSamples.{matched, selector_holds}
use Rattle.cascade_spec.proofs.Computing.{computing}
use Rattle.cascade_spec.proofs.examples.matching.lists_in_selectors_match.Goals as goal

pub returns-clause-is_of_two : goal.returns-clause-is_of_two
returns-clause-is_of_two c = simp (computing, matched, selector_holds) (search (rules, computing))

pub returns-clause-is_of_none : goal.returns-clause-is_of_none
returns-clause-is_of_none c = simp (computing, matched, selector_holds) (search (rules, computing))

pub returns-clause-is_with_a_combinator : goal.returns-clause-is_with_a_combinator
returns-clause-is_with_a_combinator c = simp (computing, matched, selector_holds) (search (rules, computing))

pub returns-clause-where_as_is : goal.returns-clause-where_as_is
returns-clause-where_as_is c = simp (computing, matched, selector_holds) (search (rules, computing))

pub returns-clause-not_of_one : goal.returns-clause-not_of_one
returns-clause-not_of_one c = simp (computing, matched, selector_holds) (search (rules, computing))

pub returns-clause-not_of_two : goal.returns-clause-not_of_two
returns-clause-not_of_two c = simp (computing, matched, selector_holds) (search (rules, computing))

pub returns-clause-not_behind_a_combinator : goal.returns-clause-not_behind_a_combinator
returns-clause-not_behind_a_combinator c = simp (computing, matched, selector_holds) (search (rules, computing))

pub returns-clause-not_of_not : goal.returns-clause-not_of_not
returns-clause-not_of_not c = simp (computing, matched, selector_holds) (search (rules, computing))

pub returns-clause-local : goal.returns-clause-local
returns-clause-local c = simp (computing, matched, selector_holds) (search (rules, computing))

pub returns-clause-global : goal.returns-clause-global
returns-clause-global c = simp (computing, matched, selector_holds) (search (rules, computing))

pub returns-clause-no_pseudo_element_in_is : goal.returns-clause-no_pseudo_element_in_is
returns-clause-no_pseudo_element_in_is c = simp (computing, selector_holds) (search (rules, computing))

pub returns-clause-parent_in_is : goal.returns-clause-parent_in_is
returns-clause-parent_in_is c = simp (computing, matched, selector_holds) (search (rules, computing))

pub returns-clause-parent_in_not : goal.returns-clause-parent_in_not
returns-clause-parent_in_not c = simp (computing, matched, selector_holds) (search (rules, computing))
