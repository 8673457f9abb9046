use Rattle.std.proofs.Common.{rules}
use Rattle.std.specs.Str.{chars}
use lib.Utf8.{encode}
use Rattle.import_rules.proofs.Computing.{computing}
use Rattle.import_rules.proofs.examples.conditions.Goals as goal

pub returns-clause-media : goal.returns-clause-media
unfolding chars encode
returns-clause-media c = simp computing (search (rules, computing))

pub returns-clause-function : goal.returns-clause-function
unfolding chars encode
returns-clause-function c = simp computing (search (rules, computing))

pub returns-clause-declaration : goal.returns-clause-declaration
unfolding chars encode
returns-clause-declaration c = simp computing (search (rules, computing))

pub returns-clause-negation : goal.returns-clause-negation
unfolding chars encode
returns-clause-negation c = simp computing (search (rules, computing))

pub returns-clause-in_parentheses : goal.returns-clause-in_parentheses
unfolding chars encode
returns-clause-in_parentheses c = simp computing (search (rules, computing))

pub returns-clause-both : goal.returns-clause-both
unfolding chars encode
returns-clause-both c = simp computing (search (rules, computing))

pub returns-clause-without_places : goal.returns-clause-without_places
unfolding chars encode
returns-clause-without_places c = simp computing (search (rules, computing))
