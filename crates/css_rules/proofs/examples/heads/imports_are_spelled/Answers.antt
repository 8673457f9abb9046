use Rattle.std.proofs.Common.{rules}
use Rattle.std.specs.Str.{chars}
use lib.Utf8.{encode}
use Rattle.css_rules.proofs.Computing.{at_rules}
use Rattle.css_rules.proofs.examples.heads.imports_are_spelled.Goals as goal

pub returns-clause-media : goal.returns-clause-media
unfolding chars encode
returns-clause-media c = simp at_rules (search (rules, at_rules))
