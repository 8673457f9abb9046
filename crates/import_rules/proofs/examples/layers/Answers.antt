use Rattle.std.proofs.Common.{rules}
use Rattle.std.specs.Str.{chars}
use lib.Utf8.{encode}
use Rattle.import_rules.proofs.Computing.{computing}
use Rattle.import_rules.proofs.examples.layers.Goals as goal

pub returns-clause-keyword : goal.returns-clause-keyword
unfolding chars encode
returns-clause-keyword c = simp computing (search (rules, computing))

pub returns-clause-in_capitals : goal.returns-clause-in_capitals
unfolding chars encode
returns-clause-in_capitals c = simp computing (search (rules, computing))

pub returns-clause-named : goal.returns-clause-named
unfolding chars encode
returns-clause-named c = simp computing (search (rules, computing))

pub returns-clause-before_conditions : goal.returns-clause-before_conditions
unfolding chars encode
returns-clause-before_conditions c = simp computing (search (rules, computing))

pub returns-clause-behind_a_type : goal.returns-clause-behind_a_type
unfolding chars encode
returns-clause-behind_a_type c = simp computing (search (rules, computing))

pub returns-clause-of_no_target : goal.returns-clause-of_no_target
unfolding chars encode
returns-clause-of_no_target c = simp computing (search (rules, computing))
