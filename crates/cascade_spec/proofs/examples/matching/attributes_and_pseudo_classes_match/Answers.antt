use Rattle.std.proofs.Common.{rules}
use Rattle.std.specs.Fmt.{digits}
use Rattle.std.specs.Str.{chars}
use lib.Utf8.{encode}
use Rattle.cascade_spec.specs.SelectorSamples.{matched, selector_holds}
use Rattle.cascade_spec.proofs.Computing.{computing}
use Rattle.cascade_spec.proofs.examples.matching.attributes_and_pseudo_classes_match.Goals as goal

pub returns-clause-attribute_alone : goal.returns-clause-attribute_alone
unfolding digits chars encode
returns-clause-attribute_alone c = simp (computing, matched, selector_holds) (search (rules, computing))

pub returns-clause-attribute_value : goal.returns-clause-attribute_value
unfolding digits chars encode
returns-clause-attribute_value c = simp (computing, matched, selector_holds) (search (rules, computing))

pub returns-clause-other_value : goal.returns-clause-other_value
unfolding digits chars encode
returns-clause-other_value c = simp (computing, matched, selector_holds) (search (rules, computing))

pub returns-clause-other_operator : goal.returns-clause-other_operator
unfolding digits chars encode
returns-clause-other_operator c = simp (computing, matched, selector_holds) (search (rules, computing))

pub returns-clause-attribute_of_a_type : goal.returns-clause-attribute_of_a_type
unfolding digits chars encode
returns-clause-attribute_of_a_type c = simp (computing, matched, selector_holds) (search (rules, computing))

pub returns-clause-pseudo_class : goal.returns-clause-pseudo_class
returns-clause-pseudo_class c = simp (computing, matched, selector_holds) (search (rules, computing))

pub returns-clause-other_pseudo_class : goal.returns-clause-other_pseudo_class
returns-clause-other_pseudo_class c = simp (computing, matched, selector_holds) (search (rules, computing))

pub returns-clause-pseudo_class_with_its_argument : goal.returns-clause-pseudo_class_with_its_argument
returns-clause-pseudo_class_with_its_argument c = simp (computing, matched, selector_holds) (search (rules, computing))

pub returns-clause-pseudo_class_is_no_class : goal.returns-clause-pseudo_class_is_no_class
returns-clause-pseudo_class_is_no_class c = simp (computing, matched, selector_holds) (search (rules, computing))

pub returns-clause-class_is_no_pseudo_class : goal.returns-clause-class_is_no_pseudo_class
returns-clause-class_is_no_pseudo_class c = simp (computing, matched, selector_holds) (search (rules, computing))

pub returns-clause-of_an_ancestor : goal.returns-clause-of_an_ancestor
returns-clause-of_an_ancestor c = simp (computing, matched, selector_holds) (search (rules, computing))

pub returns-clause-foreign : goal.returns-clause-foreign
returns-clause-foreign c = simp (computing, matched, selector_holds) (search (rules, computing))
