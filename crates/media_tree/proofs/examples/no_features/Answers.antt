use Rattle.std.proofs.Common.{rules}
use Rattle.std.specs.Str.{chars}
use lib.Utf8.{encode}
use Rattle.media_tree.proofs.Computing.{computing}
use Rattle.media_tree.proofs.examples.no_features.Goals as goal

pub returns-clause-name_without_a_range : goal.returns-clause-name_without_a_range
unfolding chars encode
returns-clause-name_without_a_range c = simp computing (search (rules, computing))

pub returns-clause-parted_relation : goal.returns-clause-parted_relation
unfolding chars encode
returns-clause-parted_relation c = simp computing (search (rules, computing))

pub returns-clause-bounds_both_ways : goal.returns-clause-bounds_both_ways
unfolding chars encode
returns-clause-bounds_both_ways c = simp computing (search (rules, computing))

pub returns-clause-equal_bounds : goal.returns-clause-equal_bounds
unfolding chars encode
returns-clause-equal_bounds c = simp computing (search (rules, computing))

pub returns-clause-no_value : goal.returns-clause-no_value
unfolding chars encode
returns-clause-no_value c = simp computing (search (rules, computing))

pub returns-clause-two_values : goal.returns-clause-two_values
unfolding chars encode
returns-clause-two_values c = simp computing (search (rules, computing))

pub returns-clause-percentage : goal.returns-clause-percentage
unfolding chars encode
returns-clause-percentage c = simp computing (search (rules, computing))

pub returns-clause-ratio_of_dimensions : goal.returns-clause-ratio_of_dimensions
unfolding chars encode
returns-clause-ratio_of_dimensions c = simp computing (search (rules, computing))

pub returns-clause-value_alone : goal.returns-clause-value_alone
unfolding chars encode
returns-clause-value_alone c = simp computing (search (rules, computing))
