use Rattle.std.proofs.Common.{rules}
use Rattle.std.specs.Fmt.{digits}
use Rattle.std.specs.Str.{chars, is_utf8}
use lib.Utf8.{encode}
use Rattle.selector_types.proofs.Computing.{computing}
use Rattle.selector_types.proofs.examples.readable_lists.Goals as goal

pub returns-clause-class_and_id : goal.returns-clause-class_and_id
unfolding digits chars is_utf8 encode
returns-clause-class_and_id c = simp computing (search (rules, computing))

pub returns-clause-attribute_alone : goal.returns-clause-attribute_alone
unfolding digits chars is_utf8 encode
returns-clause-attribute_alone c = simp computing (search (rules, computing))

pub returns-clause-attribute_value : goal.returns-clause-attribute_value
unfolding digits chars is_utf8 encode
returns-clause-attribute_value c = simp computing (search (rules, computing))

pub returns-clause-pseudo_class : goal.returns-clause-pseudo_class
unfolding digits chars is_utf8 encode
returns-clause-pseudo_class c = simp computing (search (rules, computing))

pub returns-clause-step : goal.returns-clause-step
unfolding digits chars is_utf8 encode
returns-clause-step c = simp computing (search (rules, computing))

pub returns-clause-step_with_a_sign : goal.returns-clause-step_with_a_sign
unfolding digits chars is_utf8 encode
returns-clause-step_with_a_sign c = simp computing (search (rules, computing))

pub returns-clause-lang : goal.returns-clause-lang
unfolding digits chars is_utf8 encode
returns-clause-lang c = simp computing (search (rules, computing))

pub returns-clause-element : goal.returns-clause-element
unfolding digits chars is_utf8 encode
returns-clause-element c = simp computing (search (rules, computing))

pub returns-clause-lead : goal.returns-clause-lead
unfolding digits chars is_utf8 encode
returns-clause-lead c = simp computing (search (rules, computing))

pub returns-clause-empty_is : goal.returns-clause-empty_is
unfolding digits chars is_utf8 encode
returns-clause-empty_is c = simp computing (search (rules, computing))

pub returns-clause-not_of_two : goal.returns-clause-not_of_two
unfolding digits chars is_utf8 encode
returns-clause-not_of_two c = simp computing (search (rules, computing))

pub returns-clause-local : goal.returns-clause-local
unfolding digits chars is_utf8 encode
returns-clause-local c = simp computing (search (rules, computing))
