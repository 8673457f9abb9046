use Rattle.std.proofs.Common.{rules}
use Rattle.std.specs.Fmt.{digits}
use Rattle.std.specs.Str.{chars, is_utf8}
use lib.Utf8.{encode}
use Rattle.selector_types.proofs.Computing.{computing}
use Rattle.selector_types.proofs.examples.unreadable_lists.Goals as goal

pub returns-clause-nothing : goal.returns-clause-nothing
unfolding digits chars is_utf8 encode
returns-clause-nothing c = search rules

pub returns-clause-nothing_in_a_compound : goal.returns-clause-nothing_in_a_compound
unfolding digits chars is_utf8 encode
returns-clause-nothing_in_a_compound c = simp computing (search (rules, computing))

pub returns-clause-class_without_a_name : goal.returns-clause-class_without_a_name
unfolding digits chars is_utf8 encode
returns-clause-class_without_a_name c = simp computing (search (rules, computing))

pub returns-clause-type_without_a_name : goal.returns-clause-type_without_a_name
unfolding digits chars is_utf8 encode
returns-clause-type_without_a_name c = simp computing (search (rules, computing))

pub returns-clause-flag : goal.returns-clause-flag
unfolding digits chars is_utf8 encode
returns-clause-flag c = simp computing (search (rules, computing))

pub returns-clause-value_of_no_test : goal.returns-clause-value_of_no_test
unfolding digits chars is_utf8 encode
returns-clause-value_of_no_test c = simp computing (search (rules, computing))

pub returns-clause-element_as_a_class : goal.returns-clause-element_as_a_class
unfolding digits chars is_utf8 encode
returns-clause-element_as_a_class c = simp computing (search (rules, computing))

pub returns-clause-capitals : goal.returns-clause-capitals
unfolding digits chars is_utf8 encode
returns-clause-capitals c = simp computing (search (rules, computing))

pub returns-clause-step_with_white_space : goal.returns-clause-step_with_white_space
unfolding digits chars is_utf8 encode
returns-clause-step_with_white_space c = simp computing (search (rules, computing))

pub returns-clause-step_with_a_capital : goal.returns-clause-step_with_a_capital
unfolding digits chars is_utf8 encode
returns-clause-step_with_a_capital c = simp computing (search (rules, computing))

pub returns-clause-no_step : goal.returns-clause-no_step
unfolding digits chars is_utf8 encode
returns-clause-no_step c = simp computing (search (rules, computing))

pub returns-clause-lang_of_a_number : goal.returns-clause-lang_of_a_number
unfolding digits chars is_utf8 encode
returns-clause-lang_of_a_number c = simp computing (search (rules, computing))

pub returns-clause-foreign : goal.returns-clause-foreign
unfolding digits chars is_utf8 encode
returns-clause-foreign c = simp computing (search (rules, computing))

pub returns-clause-element_before_a_compound : goal.returns-clause-element_before_a_compound
unfolding digits chars is_utf8 encode
returns-clause-element_before_a_compound c = simp computing (search (rules, computing))

pub returns-clause-lead_outside : goal.returns-clause-lead_outside
unfolding digits chars is_utf8 encode
returns-clause-lead_outside c = simp computing (search (rules, computing))

pub returns-clause-white_space_as_a_lead : goal.returns-clause-white_space_as_a_lead
unfolding digits chars is_utf8 encode
returns-clause-white_space_as_a_lead c = simp computing (search (rules, computing))

pub returns-clause-lead_in_is : goal.returns-clause-lead_in_is
unfolding digits chars is_utf8 encode
returns-clause-lead_in_is c = simp computing (search (rules, computing))

pub returns-clause-empty_not : goal.returns-clause-empty_not
unfolding digits chars is_utf8 encode
returns-clause-empty_not c = simp computing (search (rules, computing))

pub returns-clause-element_in_local : goal.returns-clause-element_in_local
unfolding digits chars is_utf8 encode
returns-clause-element_in_local c = simp computing (search (rules, computing))
