use Rattle.std.proofs.Common.{rules}
use Rattle.std.specs.Str.{chars}
use lib.Utf8.{encode}
use Rattle.media_tree.proofs.Computing.{computing}
use Rattle.media_tree.proofs.examples.feature_readings.Goals as goal

pub returns-clause-plain : goal.returns-clause-plain
unfolding chars encode
returns-clause-plain c = simp computing (search (rules, computing))

pub returns-clause-name_as_a_value : goal.returns-clause-name_as_a_value
unfolding chars encode
returns-clause-name_as_a_value c = simp computing (search (rules, computing))

pub returns-clause-ratio : goal.returns-clause-ratio
unfolding chars encode
returns-clause-ratio c = simp computing (search (rules, computing))

pub returns-clause-ratio_with_a_comment : goal.returns-clause-ratio_with_a_comment
unfolding chars encode
returns-clause-ratio_with_a_comment c = simp computing (search (rules, computing))

pub returns-clause-less : goal.returns-clause-less
unfolding chars encode
returns-clause-less c = simp computing (search (rules, computing))

pub returns-clause-less_or_equal : goal.returns-clause-less_or_equal
unfolding chars encode
returns-clause-less_or_equal c = simp computing (search (rules, computing))

pub returns-clause-equal : goal.returns-clause-equal
unfolding chars encode
returns-clause-equal c = simp computing (search (rules, computing))

pub returns-clause-value_first : goal.returns-clause-value_first
unfolding chars encode
returns-clause-value_first c = simp computing (search (rules, computing))

pub returns-clause-two_names : goal.returns-clause-two_names
unfolding chars encode
returns-clause-two_names c = simp computing (search (rules, computing))

pub returns-clause-name_behind_another : goal.returns-clause-name_behind_another
unfolding chars encode
returns-clause-name_behind_another c = simp computing (search (rules, computing))

pub returns-clause-two_bounds : goal.returns-clause-two_bounds
unfolding chars encode
returns-clause-two_bounds c = simp computing (search (rules, computing))

pub returns-clause-falling_bounds : goal.returns-clause-falling_bounds
unfolding chars encode
returns-clause-falling_bounds c = simp computing (search (rules, computing))
