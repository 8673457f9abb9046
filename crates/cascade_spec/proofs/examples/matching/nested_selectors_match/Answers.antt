use Rattle.std.proofs.Common.{rules}
use Rattle.cascade_spec.specs.SelectorSamples.{matched, selector_holds}
use Rattle.cascade_spec.proofs.Computing.{computing}
use Rattle.cascade_spec.proofs.examples.matching.nested_selectors_match.Goals as goal

pub returns-clause-parent_alone : goal.returns-clause-parent_alone
returns-clause-parent_alone c = simp (computing, matched, selector_holds) (search (rules, computing))

pub returns-clause-compound : goal.returns-clause-compound
returns-clause-compound c = simp (computing, matched, selector_holds) (search (rules, computing))

pub returns-clause-descendant_is_implied : goal.returns-clause-descendant_is_implied
returns-clause-descendant_is_implied c = simp (computing, matched, selector_holds) (search (rules, computing))

pub returns-clause-of_any_ancestor : goal.returns-clause-of_any_ancestor
returns-clause-of_any_ancestor c = simp (computing, matched, selector_holds) (search (rules, computing))

pub returns-clause-not_of_the_parent_itself : goal.returns-clause-not_of_the_parent_itself
returns-clause-not_of_the_parent_itself c = simp (computing, matched, selector_holds) (search (rules, computing))

pub returns-clause-parent_is_implied : goal.returns-clause-parent_is_implied
returns-clause-parent_is_implied c = simp (computing, matched, selector_holds) (search (rules, computing))

pub returns-clause-next_of_the_parent : goal.returns-clause-next_of_the_parent
returns-clause-next_of_the_parent c = simp (computing, matched, selector_holds) (search (rules, computing))

pub returns-clause-parent_twice : goal.returns-clause-parent_twice
returns-clause-parent_twice c = simp (computing, matched, selector_holds) (search (rules, computing))

pub returns-clause-parent_last : goal.returns-clause-parent_last
returns-clause-parent_last c = simp (computing, matched, selector_holds) (search (rules, computing))

pub returns-clause-parent_first : goal.returns-clause-parent_first
returns-clause-parent_first c = simp (computing, matched, selector_holds) (search (rules, computing))

pub returns-clause-parent_behind_two : goal.returns-clause-parent_behind_two
returns-clause-parent_behind_two c = simp (computing, matched, selector_holds) (search (rules, computing))

pub returns-clause-parent_is_implied_beside_another : goal.returns-clause-parent_is_implied_beside_another
returns-clause-parent_is_implied_beside_another c = simp (computing, matched, selector_holds) (search (rules, computing))

pub returns-clause-parent_before_and_behind : goal.returns-clause-parent_before_and_behind
returns-clause-parent_before_and_behind c = simp (computing, matched, selector_holds) (search (rules, computing))

pub returns-clause-no_pseudo_element : goal.returns-clause-no_pseudo_element
returns-clause-no_pseudo_element c = simp (computing, selector_holds) (search (rules, computing))

pub returns-clause-no_pseudo_element_of_a_descendant : goal.returns-clause-no_pseudo_element_of_a_descendant
returns-clause-no_pseudo_element_of_a_descendant c = simp (computing, selector_holds) (search (rules, computing))

pub returns-clause-parent_is_no_pseudo_element : goal.returns-clause-parent_is_no_pseudo_element
returns-clause-parent_is_no_pseudo_element c = simp (computing, selector_holds) (search (rules, computing))

pub returns-clause-parent_is_the_inner_rule : goal.returns-clause-parent_is_the_inner_rule
returns-clause-parent_is_the_inner_rule c = simp (computing, matched, selector_holds) (search (rules, computing))

pub returns-clause-descendant_of_the_inner_rule : goal.returns-clause-descendant_of_the_inner_rule
returns-clause-descendant_of_the_inner_rule c = simp (computing, matched, selector_holds) (search (rules, computing))

pub returns-clause-nothing_in_the_inner_rule : goal.returns-clause-nothing_in_the_inner_rule
returns-clause-nothing_in_the_inner_rule c = simp (computing, matched, selector_holds) (search (rules, computing))

pub returns-clause-parent_in_a_list : goal.returns-clause-parent_in_a_list
returns-clause-parent_in_a_list c = simp computing (search (rules, computing))

pub returns-clause-no_parent_in_a_list : goal.returns-clause-no_parent_in_a_list
returns-clause-no_parent_in_a_list c = simp computing (search (rules, computing))
