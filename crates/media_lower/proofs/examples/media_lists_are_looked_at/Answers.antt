use Rattle.std.proofs.Common.{rules}
use Rattle.std.specs.Str.{chars}
use lib.Utf8.{encode}
use Rattle.media_lower.proofs.Computing.{computing}
use Rattle.media_lower.proofs.examples.media_lists_are_looked_at.Goals as goal

pub returns-clause-known : goal.returns-clause-known
unfolding chars encode
returns-clause-known c = simp computing (search (rules, computing))

pub returns-clause-unknown : goal.returns-clause-unknown
unfolding chars encode
returns-clause-unknown c = simp computing (search (rules, computing))

pub returns-clause-unknown_inside : goal.returns-clause-unknown_inside
unfolding chars encode
returns-clause-unknown_inside c = simp computing (search (rules, computing))

pub returns-clause-old : goal.returns-clause-old
unfolding chars encode
returns-clause-old c = simp computing (search (rules, computing))

pub returns-clause-range : goal.returns-clause-range
unfolding chars encode
returns-clause-range c = simp computing (search (rules, computing))

pub returns-clause-empty_list : goal.returns-clause-empty_list
unfolding chars encode
returns-clause-empty_list c = simp computing (search (rules, computing))

pub returns-clause-range_inside : goal.returns-clause-range_inside
unfolding chars encode
returns-clause-range_inside c = simp computing (search (rules, computing))
