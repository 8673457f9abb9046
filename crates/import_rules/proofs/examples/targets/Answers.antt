use Rattle.std.proofs.Common.{rules}
use Rattle.std.specs.Str.{chars}
use lib.Utf8.{encode}
use Rattle.import_rules.proofs.Computing.{computing}
use Rattle.import_rules.proofs.examples.targets.Goals as goal

pub returns-clause-quoted : goal.returns-clause-quoted
unfolding chars encode
returns-clause-quoted c = simp computing (search (rules, computing))

pub returns-clause-in_single_quotes : goal.returns-clause-in_single_quotes
unfolding chars encode
returns-clause-in_single_quotes c = simp computing (search (rules, computing))

pub returns-clause-escapes : goal.returns-clause-escapes
unfolding chars encode
returns-clause-escapes c = simp computing (search (rules, computing))

pub returns-clause-empty : goal.returns-clause-empty
unfolding chars encode
returns-clause-empty c = simp computing (search (rules, computing))

pub returns-clause-address : goal.returns-clause-address
unfolding chars encode
returns-clause-address c = simp computing (search (rules, computing))

pub returns-clause-escapes_in_an_address : goal.returns-clause-escapes_in_an_address
unfolding chars encode
returns-clause-escapes_in_an_address c = simp computing (search (rules, computing))

pub returns-clause-function : goal.returns-clause-function
unfolding chars encode
returns-clause-function c = simp computing (search (rules, computing))

pub returns-clause-function_in_capitals : goal.returns-clause-function_in_capitals
unfolding chars encode
returns-clause-function_in_capitals c = simp computing (search (rules, computing))

pub returns-clause-white_space_behind : goal.returns-clause-white_space_behind
unfolding chars encode
returns-clause-white_space_behind c = simp computing (search (rules, computing))
