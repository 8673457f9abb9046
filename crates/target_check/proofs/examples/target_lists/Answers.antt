use Rattle.std.proofs.Common.{rules}
use Rattle.std.specs.Str.{chars}
use lib.Utf8.{encode}
use Rattle.target_check.proofs.Computing.{computing}
use Rattle.target_check.proofs.examples.target_lists.Goals as goal

pub returns-clause-features : goal.returns-clause-features
unfolding chars encode
returns-clause-features c = simp computing (search (rules, computing))

pub returns-clause-range : goal.returns-clause-range
unfolding chars encode
returns-clause-range c = simp computing (search (rules, computing))

pub returns-clause-range_among_features : goal.returns-clause-range_among_features
unfolding chars encode
returns-clause-range_among_features c = simp computing (search (rules, computing))

pub returns-clause-alternatives : goal.returns-clause-alternatives
unfolding chars encode
returns-clause-alternatives c = simp computing (search (rules, computing))

pub returns-clause-negation : goal.returns-clause-negation
unfolding chars encode
returns-clause-negation c = simp computing (search (rules, computing))

pub returns-clause-nested : goal.returns-clause-nested
unfolding chars encode
returns-clause-nested c = simp computing (search (rules, computing))

pub returns-clause-one_joined : goal.returns-clause-one_joined
unfolding chars encode
returns-clause-one_joined c = simp computing (search (rules, computing))

pub returns-clause-second_query : goal.returns-clause-second_query
unfolding chars encode
returns-clause-second_query c = simp computing (search (rules, computing))
