use Rattle.std.proofs.Common.{rules}
use Rattle.cascade_spec.specs.SelectorSamples.{specificity_in}
use Rattle.cascade_spec.proofs.Computing.{computing}
use Rattle.cascade_spec.proofs.examples.matching.specificities.Goals as goal

pub returns-clause-attribute_as_a_class : goal.returns-clause-attribute_as_a_class
returns-clause-attribute_as_a_class c = simp (computing, specificity_in) (search (rules, computing))

pub returns-clause-pseudo_class_as_a_class : goal.returns-clause-pseudo_class_as_a_class
returns-clause-pseudo_class_as_a_class c = simp (computing, specificity_in) (search (rules, computing))

pub returns-clause-pseudo_element_as_a_type : goal.returns-clause-pseudo_element_as_a_type
returns-clause-pseudo_element_as_a_type c = simp (computing, specificity_in) (search (rules, computing))

pub returns-clause-state_as_a_class : goal.returns-clause-state_as_a_class
returns-clause-state_as_a_class c = simp (computing, specificity_in) (search (rules, computing))

pub returns-clause-not_as_its_most : goal.returns-clause-not_as_its_most
returns-clause-not_as_its_most c = simp (computing, specificity_in) (search (rules, computing))

pub returns-clause-where_as_nothing : goal.returns-clause-where_as_nothing
returns-clause-where_as_nothing c = simp (computing, specificity_in) (search (rules, computing))

pub returns-clause-unknown_member_counts : goal.returns-clause-unknown_member_counts
returns-clause-unknown_member_counts c = simp (computing, specificity_in) (search (rules, computing))

pub returns-clause-most_of_the_parent : goal.returns-clause-most_of_the_parent
returns-clause-most_of_the_parent c = simp (computing, specificity_in) (search (rules, computing))

pub returns-clause-parent_counts_each_time : goal.returns-clause-parent_counts_each_time
returns-clause-parent_counts_each_time c = simp (computing, specificity_in) (search (rules, computing))

pub returns-clause-implied_parent : goal.returns-clause-implied_parent
returns-clause-implied_parent c = simp (computing, specificity_in) (search (rules, computing))

pub returns-clause-implied_before_a_combinator : goal.returns-clause-implied_before_a_combinator
returns-clause-implied_before_a_combinator c = simp (computing, specificity_in) (search (rules, computing))

pub returns-clause-implied_beside_another : goal.returns-clause-implied_beside_another
returns-clause-implied_beside_another c = simp (computing, specificity_in) (search (rules, computing))

pub returns-clause-parent_by_its_last : goal.returns-clause-parent_by_its_last
returns-clause-parent_by_its_last c = simp (computing, specificity_in) (search (rules, computing))

pub returns-clause-parent_in_a_nested_rule : goal.returns-clause-parent_in_a_nested_rule
returns-clause-parent_in_a_nested_rule c = simp (computing, specificity_in) (search (rules, computing))

pub returns-clause-implied_in_a_nested_rule : goal.returns-clause-implied_in_a_nested_rule
returns-clause-implied_in_a_nested_rule c = simp (computing, specificity_in) (search (rules, computing))

pub returns-clause-nested_rule_by_the_most_of_its_parent : goal.returns-clause-nested_rule_by_the_most_of_its_parent
returns-clause-nested_rule_by_the_most_of_its_parent c = simp computing (search (rules, computing))

pub returns-clause-list_by_its_matching_class : goal.returns-clause-list_by_its_matching_class
returns-clause-list_by_its_matching_class c = simp computing (search (rules, computing))

pub returns-clause-list_by_its_matching_id : goal.returns-clause-list_by_its_matching_id
returns-clause-list_by_its_matching_id c = simp computing (search (rules, computing))

pub returns-clause-most_specific_is_last : goal.returns-clause-most_specific_is_last
returns-clause-most_specific_is_last c = simp computing (search (rules, computing))

pub returns-clause-most_specific_is_first : goal.returns-clause-most_specific_is_first
returns-clause-most_specific_is_first c = simp computing (search (rules, computing))

pub returns-clause-pseudo_element_by_its_member : goal.returns-clause-pseudo_element_by_its_member
returns-clause-pseudo_element_by_its_member c = simp computing (search (rules, computing))
