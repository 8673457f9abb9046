use Rattle.std.proofs.Common.{rules}
use Rattle.cascade_spec.specs.SelectorSamples.{has_unknown, matched, selector_holds}
use Rattle.cascade_spec.proofs.Computing.{computing}
use Rattle.cascade_spec.proofs.examples.matching.unknown_pseudos.Goals as goal

pub returns-clause-known : goal.returns-clause-known
returns-clause-known c = simp (computing, has_unknown) (search (rules, computing))

pub returns-clause-unknown : goal.returns-clause-unknown
returns-clause-unknown c = simp (computing, has_unknown) (search (rules, computing))

pub returns-clause-unknown_function : goal.returns-clause-unknown_function
returns-clause-unknown_function c = simp (computing, has_unknown) (search (rules, computing))

pub returns-clause-known_function : goal.returns-clause-known_function
returns-clause-known_function c = simp (computing, has_unknown) (search (rules, computing))

pub returns-clause-class_is_no_pseudo_class : goal.returns-clause-class_is_no_pseudo_class
returns-clause-class_is_no_pseudo_class c = simp (computing, has_unknown) (search (rules, computing))

pub returns-clause-unknown_pseudo_element : goal.returns-clause-unknown_pseudo_element
returns-clause-unknown_pseudo_element c = simp (computing, has_unknown) (search (rules, computing))

pub returns-clause-unknown_state : goal.returns-clause-unknown_state
returns-clause-unknown_state c = simp (computing, has_unknown) (search (rules, computing))

pub returns-clause-known_state : goal.returns-clause-known_state
returns-clause-known_state c = simp (computing, has_unknown) (search (rules, computing))

pub returns-clause-in_an_earlier_compound : goal.returns-clause-in_an_earlier_compound
returns-clause-in_an_earlier_compound c = simp (computing, has_unknown) (search (rules, computing))

pub returns-clause-in_a_later_compound : goal.returns-clause-in_a_later_compound
returns-clause-in_a_later_compound c = simp (computing, has_unknown) (search (rules, computing))

pub returns-clause-in_not : goal.returns-clause-in_not
returns-clause-in_not c = simp (computing, has_unknown) (search (rules, computing))

pub returns-clause-in_local : goal.returns-clause-in_local
returns-clause-in_local c = simp (computing, has_unknown) (search (rules, computing))

pub returns-clause-in_is : goal.returns-clause-in_is
returns-clause-in_is c = simp (computing, has_unknown) (search (rules, computing))

pub returns-clause-in_where : goal.returns-clause-in_where
returns-clause-in_where c = simp (computing, has_unknown) (search (rules, computing))

pub returns-clause-unknown_member_matches_nothing : goal.returns-clause-unknown_member_matches_nothing
returns-clause-unknown_member_matches_nothing c = simp (computing, matched, selector_holds) (search (rules, computing))

pub returns-clause-unknown_member_of_where : goal.returns-clause-unknown_member_of_where
returns-clause-unknown_member_of_where c = simp (computing, matched, selector_holds) (search (rules, computing))

pub returns-clause-not_of_an_unknown_member : goal.returns-clause-not_of_an_unknown_member
returns-clause-not_of_an_unknown_member c = simp (computing, matched, selector_holds) (search (rules, computing))

pub returns-clause-is_in_a_member : goal.returns-clause-is_in_a_member
returns-clause-is_in_a_member c = simp (computing, matched, selector_holds) (search (rules, computing))

pub returns-clause-list_is_dropped : goal.returns-clause-list_is_dropped
returns-clause-list_is_dropped c = simp computing (search (rules, computing))

pub returns-clause-list_is_not_dropped : goal.returns-clause-list_is_not_dropped
returns-clause-list_is_not_dropped c = simp computing (search (rules, computing))

pub returns-clause-nested_rule_is_dropped : goal.returns-clause-nested_rule_is_dropped
returns-clause-nested_rule_is_dropped c = simp computing (search (rules, computing))
