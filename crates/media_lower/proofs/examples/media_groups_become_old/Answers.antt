use Rattle.std.proofs.Common.{rules}
use Rattle.std.specs.Str.{chars}
use lib.Utf8.{encode}
use Rattle.media_lower.proofs.Computing.{computing}
use Rattle.media_lower.proofs.examples.media_groups_become_old.Goals as goal

pub returns-clause-half_open : goal.returns-clause-half_open
unfolding chars encode
returns-clause-half_open c = simp computing (search (rules, computing))

pub returns-clause-empty_list : goal.returns-clause-empty_list
unfolding chars encode
returns-clause-empty_list c = simp computing (search (rules, computing))

pub returns-clause-plain_list : goal.returns-clause-plain_list
unfolding chars encode
returns-clause-plain_list c = simp computing (search (rules, computing))

pub returns-clause-group_in_a_group : goal.returns-clause-group_in_a_group
unfolding chars encode
returns-clause-group_in_a_group c = simp computing (search (rules, computing))

pub returns-clause-empty_list_in_a_group : goal.returns-clause-empty_list_in_a_group
unfolding chars encode
returns-clause-empty_list_in_a_group c = simp computing (search (rules, computing))
