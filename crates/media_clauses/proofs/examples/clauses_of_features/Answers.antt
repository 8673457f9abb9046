use Rattle.std.proofs.Common.{rules}
use Rattle.std.specs.Str.{chars}
use lib.Utf8.{encode}
use Rattle.media_clauses.proofs.Computing.{computing}
use Rattle.media_clauses.proofs.examples.clauses_of_features.Goals as goal

pub returns-clause-feature : goal.returns-clause-feature
unfolding chars encode
returns-clause-feature c = simp computing (search (rules, computing))

pub returns-clause-not_a_feature : goal.returns-clause-not_a_feature
unfolding chars encode
returns-clause-not_a_feature c = simp computing (search (rules, computing))

pub returns-clause-at_least : goal.returns-clause-at_least
unfolding chars encode
returns-clause-at_least c = simp computing (search (rules, computing))

pub returns-clause-at_most : goal.returns-clause-at_most
unfolding chars encode
returns-clause-at_most c = simp computing (search (rules, computing))

pub returns-clause-equal : goal.returns-clause-equal
unfolding chars encode
returns-clause-equal c = simp computing (search (rules, computing))

pub returns-clause-above : goal.returns-clause-above
unfolding chars encode
returns-clause-above c = simp computing (search (rules, computing))

pub returns-clause-below : goal.returns-clause-below
unfolding chars encode
returns-clause-below c = simp computing (search (rules, computing))

pub returns-clause-not_at_least : goal.returns-clause-not_at_least
unfolding chars encode
returns-clause-not_at_least c = simp computing (search (rules, computing))

pub returns-clause-not_at_most : goal.returns-clause-not_at_most
unfolding chars encode
returns-clause-not_at_most c = simp computing (search (rules, computing))

pub returns-clause-not_equal : goal.returns-clause-not_equal
unfolding chars encode
returns-clause-not_equal c = simp computing (search (rules, computing))

pub returns-clause-not_above : goal.returns-clause-not_above
unfolding chars encode
returns-clause-not_above c = simp computing (search (rules, computing))

pub returns-clause-not_below : goal.returns-clause-not_below
unfolding chars encode
returns-clause-not_below c = simp computing (search (rules, computing))

pub returns-clause-between : goal.returns-clause-between
unfolding chars encode
returns-clause-between c = simp computing (search (rules, computing))

pub returns-clause-not_between : goal.returns-clause-not_between
unfolding chars encode
returns-clause-not_between c = simp computing (search (rules, computing))
