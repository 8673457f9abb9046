use Rattle.std.proofs.Common.{rules}
use Rattle.std.specs.Str.{chars}
use lib.Utf8.{encode}
use Rattle.media_tree.proofs.Computing.{computing}
use Rattle.media_tree.proofs.examples.supports_readings.Goals as goal

pub returns-clause-declaration : goal.returns-clause-declaration
unfolding chars encode
returns-clause-declaration c = simp computing (search (rules, computing))

pub returns-clause-custom_property : goal.returns-clause-custom_property
unfolding chars encode
returns-clause-custom_property c = simp computing (search (rules, computing))

pub returns-clause-negation : goal.returns-clause-negation
unfolding chars encode
returns-clause-negation c = simp computing (search (rules, computing))

pub returns-clause-joined : goal.returns-clause-joined
unfolding chars encode
returns-clause-joined c = simp computing (search (rules, computing))

pub returns-clause-alternatives : goal.returns-clause-alternatives
unfolding chars encode
returns-clause-alternatives c = simp computing (search (rules, computing))

pub returns-clause-further_parentheses : goal.returns-clause-further_parentheses
unfolding chars encode
returns-clause-further_parentheses c = simp computing (search (rules, computing))
