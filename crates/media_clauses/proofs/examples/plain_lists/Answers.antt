use Rattle.std.proofs.Common.{rules}
use Rattle.std.specs.Str.{chars}
use lib.Utf8.{encode}
use Rattle.media_clauses.proofs.Computing.{computing}
use Rattle.media_clauses.proofs.examples.plain_lists.Goals as goal

pub returns-clause-features : goal.returns-clause-features
unfolding chars encode
returns-clause-features c = simp computing (search (rules, computing))

pub returns-clause-prefix_and_features : goal.returns-clause-prefix_and_features
unfolding chars encode
returns-clause-prefix_and_features c = simp computing (search (rules, computing))

pub returns-clause-negated : goal.returns-clause-negated
unfolding chars encode
returns-clause-negated c = simp computing (search (rules, computing))

pub returns-clause-at_least : goal.returns-clause-at_least
unfolding chars encode
returns-clause-at_least c = simp computing (search (rules, computing))

pub returns-clause-at_most : goal.returns-clause-at_most
unfolding chars encode
returns-clause-at_most c = simp computing (search (rules, computing))

pub returns-clause-equal : goal.returns-clause-equal
unfolding chars encode
returns-clause-equal c = simp computing (search (rules, computing))

pub returns-clause-two_bounds : goal.returns-clause-two_bounds
unfolding chars encode
returns-clause-two_bounds c = simp computing (search (rules, computing))

pub returns-clause-falling_bounds : goal.returns-clause-falling_bounds
unfolding chars encode
returns-clause-falling_bounds c = simp computing (search (rules, computing))

pub returns-clause-ranges_in_a_list : goal.returns-clause-ranges_in_a_list
unfolding chars encode
returns-clause-ranges_in_a_list c = simp computing (search (rules, computing))
