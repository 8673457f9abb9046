use Rattle.std.proofs.Common.{rules}
use Rattle.std.specs.Str.{chars}
use lib.Utf8.{encode}
use Rattle.css_rules.proofs.Computing.{at_rules}
use Rattle.css_rules.proofs.examples.heads.imports_are_refused.Goals as goal

pub returns-clause-none : goal.returns-clause-none
unfolding chars encode
returns-clause-none c = simp at_rules (search (rules, at_rules))

pub returns-clause-behind_a_rule : goal.returns-clause-behind_a_rule
unfolding chars encode
returns-clause-behind_a_rule c = simp at_rules (search (rules, at_rules))
