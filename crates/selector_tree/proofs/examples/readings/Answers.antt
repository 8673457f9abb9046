use Rattle.std.proofs.Common.{rules}
use Rattle.std.specs.Str.{chars}
use lib.Utf8.{encode}
use Rattle.selector_tree.proofs.Computing.{computing}
use Rattle.selector_tree.proofs.examples.readings.Goals as goal

pub returns-clause-class_name : goal.returns-clause-class_name
returns-clause-class_name c = simp computing (search (rules, computing))

pub returns-clause-upper_case : goal.returns-clause-upper_case
unfolding chars encode
returns-clause-upper_case c = simp computing (search (rules, computing))

pub returns-clause-element_with_one_colon : goal.returns-clause-element_with_one_colon
unfolding chars encode
returns-clause-element_with_one_colon c = simp computing (search (rules, computing))

pub returns-clause-element_with_two_colons : goal.returns-clause-element_with_two_colons
unfolding chars encode
returns-clause-element_with_two_colons c = simp computing (search (rules, computing))

pub returns-clause-attribute_value : goal.returns-clause-attribute_value
returns-clause-attribute_value c = simp computing (search (rules, computing))

pub returns-clause-name_as_a_value : goal.returns-clause-name_as_a_value
returns-clause-name_as_a_value c = simp computing (search (rules, computing))

pub returns-clause-step : goal.returns-clause-step
returns-clause-step c = simp computing (search (rules, computing))

pub returns-clause-lang : goal.returns-clause-lang
unfolding chars encode
returns-clause-lang c = simp computing (search (rules, computing))

pub returns-clause-list_in_not : goal.returns-clause-list_in_not
returns-clause-list_in_not c = simp computing (search (rules, computing))

pub returns-clause-empty_is : goal.returns-clause-empty_is
returns-clause-empty_is c = simp computing (search (rules, computing))

pub returns-clause-foreign : goal.returns-clause-foreign
returns-clause-foreign c = simp computing (search (rules, computing))

pub returns-clause-foreign_step : goal.returns-clause-foreign_step
returns-clause-foreign_step c = simp computing (search (rules, computing))

pub returns-clause-comment_is_nothing : goal.returns-clause-comment_is_nothing
returns-clause-comment_is_nothing c = simp computing (search (rules, computing))

pub returns-clause-step_without_white_space : goal.returns-clause-step_without_white_space
returns-clause-step_without_white_space c = simp computing (search (rules, computing))
