use Rattle.std.proofs.Common.{rules}
use Rattle.std.specs.Str.{chars}
use lib.Utf8.{encode}
use Rattle.import_rules.proofs.Computing.{computing}
use Rattle.import_rules.proofs.examples.no_conditions.Goals as goal

pub returns-clause-empty_supports : goal.returns-clause-empty_supports
unfolding chars encode
returns-clause-empty_supports c = simp computing (search (rules, computing))

pub returns-clause-name_in_supports : goal.returns-clause-name_in_supports
unfolding chars encode
returns-clause-name_in_supports c = simp computing (search (rules, computing))

pub returns-clause-block_as_a_value : goal.returns-clause-block_as_a_value
unfolding chars encode
returns-clause-block_as_a_value c = simp computing (search (rules, computing))

pub returns-clause-unreadable_supports_before_media : goal.returns-clause-unreadable_supports_before_media
unfolding chars encode
returns-clause-unreadable_supports_before_media c = simp computing (search (rules, computing))

pub returns-clause-supports_behind_media : goal.returns-clause-supports_behind_media
unfolding chars encode
returns-clause-supports_behind_media c = simp computing (search (rules, computing))

pub returns-clause-two_supports : goal.returns-clause-two_supports
unfolding chars encode
returns-clause-two_supports c = simp computing (search (rules, computing))

pub returns-clause-another_function : goal.returns-clause-another_function
unfolding chars encode
returns-clause-another_function c = simp computing (search (rules, computing))

pub returns-clause-comma_at_the_end : goal.returns-clause-comma_at_the_end
unfolding chars encode
returns-clause-comma_at_the_end c = simp computing (search (rules, computing))

pub returns-clause-string_behind_the_target : goal.returns-clause-string_behind_the_target
unfolding chars encode
returns-clause-string_behind_the_target c = simp computing (search (rules, computing))
