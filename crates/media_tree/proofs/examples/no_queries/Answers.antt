use Rattle.std.proofs.Common.{rules}
use Rattle.std.specs.Str.{chars}
use lib.Utf8.{encode}
use Rattle.media_tree.proofs.Computing.{computing}
use Rattle.media_tree.proofs.examples.no_queries.Goals as goal

pub returns-clause-empty_query : goal.returns-clause-empty_query
unfolding chars encode
returns-clause-empty_query c = simp computing (search (rules, computing))

pub returns-clause-empty_first_query : goal.returns-clause-empty_first_query
unfolding chars encode
returns-clause-empty_first_query c = simp computing (search (rules, computing))

pub returns-clause-layer_as_a_type : goal.returns-clause-layer_as_a_type
unfolding chars encode
returns-clause-layer_as_a_type c = simp computing (search (rules, computing))

pub returns-clause-keyword_as_a_type : goal.returns-clause-keyword_as_a_type
unfolding chars encode
returns-clause-keyword_as_a_type c = simp computing (search (rules, computing))

pub returns-clause-only_before_a_condition : goal.returns-clause-only_before_a_condition
unfolding chars encode
returns-clause-only_before_a_condition c = simp computing (search (rules, computing))

pub returns-clause-and_with_or : goal.returns-clause-and_with_or
unfolding chars encode
returns-clause-and_with_or c = simp computing (search (rules, computing))

pub returns-clause-or_behind_a_type : goal.returns-clause-or_behind_a_type
unfolding chars encode
returns-clause-or_behind_a_type c = simp computing (search (rules, computing))

pub returns-clause-not_behind_and : goal.returns-clause-not_behind_and
unfolding chars encode
returns-clause-not_behind_and c = simp computing (search (rules, computing))

pub returns-clause-and_at_the_end : goal.returns-clause-and_at_the_end
unfolding chars encode
returns-clause-and_at_the_end c = simp computing (search (rules, computing))

pub returns-clause-without_and : goal.returns-clause-without_and
unfolding chars encode
returns-clause-without_and c = simp computing (search (rules, computing))

pub returns-clause-function : goal.returns-clause-function
unfolding chars encode
returns-clause-function c = simp computing (search (rules, computing))

pub returns-clause-empty_parentheses : goal.returns-clause-empty_parentheses
unfolding chars encode
returns-clause-empty_parentheses c = simp computing (search (rules, computing))
