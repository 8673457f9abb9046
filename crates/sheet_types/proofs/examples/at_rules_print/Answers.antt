use Rattle.std.proofs.Common.{rules}
use Rattle.std.specs.Str.{chars}
use lib.Utf8.{encode}
use Rattle.sheet_types.proofs.Computing.{computing}
use Rattle.sheet_types.proofs.examples.at_rules_print.Goals as goal

pub returns-clause-media : goal.returns-clause-media
unfolding chars encode
returns-clause-media c = simp computing (search (rules, computing))

pub returns-clause-no_query : goal.returns-clause-no_query
unfolding chars encode
returns-clause-no_query c = simp computing (search (rules, computing))

pub returns-clause-supports : goal.returns-clause-supports
unfolding chars encode
returns-clause-supports c = simp computing (search (rules, computing))

pub returns-clause-in_a_rule : goal.returns-clause-in_a_rule
unfolding chars encode
returns-clause-in_a_rule c = simp computing (search (rules, computing))

pub returns-clause-empty_group : goal.returns-clause-empty_group
returns-clause-empty_group c = simp computing (search (rules, computing))

pub returns-clause-font_face : goal.returns-clause-font_face
unfolding chars encode
returns-clause-font_face c = simp computing (search (rules, computing))

pub returns-clause-page : goal.returns-clause-page
unfolding chars encode
returns-clause-page c = simp computing (search (rules, computing))

pub returns-clause-other : goal.returns-clause-other
returns-clause-other c = simp computing (search (rules, computing))
