use Rattle.std.proofs.Common.{rules}
use Rattle.std.specs.Str.{chars}
use lib.Utf8.{encode}
use Rattle.media_lower.proofs.Computing.{computing}
use Rattle.media_lower.proofs.examples.other_items_stay.Goals as goal

pub returns-clause-supports : goal.returns-clause-supports
unfolding chars encode
returns-clause-supports c = simp computing (search (rules, computing))

pub returns-clause-rule : goal.returns-clause-rule
unfolding chars encode
returns-clause-rule c = simp computing (search (rules, computing))

pub returns-clause-passed_rule : goal.returns-clause-passed_rule
unfolding chars encode
returns-clause-passed_rule c = simp computing (search (rules, computing))

pub returns-clause-other_rule : goal.returns-clause-other_rule
unfolding chars encode
returns-clause-other_rule c = simp computing (search (rules, computing))
