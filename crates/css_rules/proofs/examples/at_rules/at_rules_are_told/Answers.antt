use Rattle.std.proofs.Common.{rules}
use Rattle.std.specs.Str.{chars}
use lib.Utf8.{encode}
use Rattle.css_rules.proofs.Computing.{at_rules}
use Rattle.css_rules.proofs.examples.at_rules.at_rules_are_told.Goals as goal

pub returns-clause-media : goal.returns-clause-media
unfolding chars encode
returns-clause-media c = simp at_rules (search (rules, at_rules))

pub returns-clause-no_query : goal.returns-clause-no_query
unfolding chars encode
returns-clause-no_query c = simp at_rules (search (rules, at_rules))

pub returns-clause-no_condition : goal.returns-clause-no_condition
unfolding chars encode
returns-clause-no_condition c = simp at_rules (search (rules, at_rules))

pub returns-clause-escaped_keyword : goal.returns-clause-escaped_keyword
unfolding chars encode
returns-clause-escaped_keyword c = simp at_rules (search (rules, at_rules))
