use Rattle.std.proofs.Common.{rules}
use Rattle.std.specs.Str.{chars}
use lib.Utf8.{encode}
use Rattle.cascade_spec.proofs.TruthComputing.{truths}
use Rattle.cascade_spec.proofs.examples.truth.ranges_hold.Goals as goal

pub returns-clause-less : goal.returns-clause-less
unfolding chars encode
returns-clause-less c = simp truths (search (rules, truths))

pub returns-clause-not_less_than_itself : goal.returns-clause-not_less_than_itself
unfolding chars encode
returns-clause-not_less_than_itself c = simp truths (search (rules, truths))

pub returns-clause-at_most_itself : goal.returns-clause-at_most_itself
unfolding chars encode
returns-clause-at_most_itself c = simp truths (search (rules, truths))

pub returns-clause-not_at_most : goal.returns-clause-not_at_most
unfolding chars encode
returns-clause-not_at_most c = simp truths (search (rules, truths))

pub returns-clause-greater : goal.returns-clause-greater
unfolding chars encode
returns-clause-greater c = simp truths (search (rules, truths))

pub returns-clause-not_greater_than_itself : goal.returns-clause-not_greater_than_itself
unfolding chars encode
returns-clause-not_greater_than_itself c = simp truths (search (rules, truths))

pub returns-clause-at_least_itself : goal.returns-clause-at_least_itself
unfolding chars encode
returns-clause-at_least_itself c = simp truths (search (rules, truths))

pub returns-clause-not_at_least : goal.returns-clause-not_at_least
unfolding chars encode
returns-clause-not_at_least c = simp truths (search (rules, truths))

pub returns-clause-equal : goal.returns-clause-equal
unfolding chars encode
returns-clause-equal c = simp truths (search (rules, truths))

pub returns-clause-not_equal : goal.returns-clause-not_equal
unfolding chars encode
returns-clause-not_equal c = simp truths (search (rules, truths))

pub returns-clause-between : goal.returns-clause-between
unfolding chars encode
returns-clause-between c = simp truths (search (rules, truths))

pub returns-clause-not_behind_the_first : goal.returns-clause-not_behind_the_first
unfolding chars encode
returns-clause-not_behind_the_first c = simp truths (search (rules, truths))

pub returns-clause-not_before_the_second : goal.returns-clause-not_before_the_second
unfolding chars encode
returns-clause-not_before_the_second c = simp truths (search (rules, truths))
