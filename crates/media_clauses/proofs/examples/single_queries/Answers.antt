use Rattle.std.proofs.Common.{rules}
use Rattle.std.specs.Str.{chars}
use lib.Utf8.{encode}
use Rattle.media_clauses.proofs.Computing.{computing}
use Rattle.media_clauses.proofs.examples.single_queries.Goals as goal

pub returns-clause-above : goal.returns-clause-above
unfolding chars encode
returns-clause-above c = simp computing (search (rules, computing))

pub returns-clause-half_open : goal.returns-clause-half_open
unfolding chars encode
returns-clause-half_open c = simp computing (search (rules, computing))

pub returns-clause-open : goal.returns-clause-open
unfolding chars encode
returns-clause-open c = simp computing (search (rules, computing))

pub returns-clause-media_type : goal.returns-clause-media_type
unfolding chars encode
returns-clause-media_type c = simp computing (search (rules, computing))

pub returns-clause-all : goal.returns-clause-all
unfolding chars encode
returns-clause-all c = simp computing (search (rules, computing))

pub returns-clause-media_type_and_features : goal.returns-clause-media_type_and_features
unfolding chars encode
returns-clause-media_type_and_features c = simp computing (search (rules, computing))

pub returns-clause-only_is_dropped : goal.returns-clause-only_is_dropped
unfolding chars encode
returns-clause-only_is_dropped c = simp computing (search (rules, computing))

pub returns-clause-alternatives : goal.returns-clause-alternatives
unfolding chars encode
returns-clause-alternatives c = simp computing (search (rules, computing))

pub returns-clause-negation : goal.returns-clause-negation
unfolding chars encode
returns-clause-negation c = simp computing (search (rules, computing))

pub returns-clause-negation_of_alternatives : goal.returns-clause-negation_of_alternatives
unfolding chars encode
returns-clause-negation_of_alternatives c = simp computing (search (rules, computing))
