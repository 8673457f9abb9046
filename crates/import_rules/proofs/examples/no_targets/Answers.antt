use Rattle.std.proofs.Common.{rules}
use Rattle.std.specs.Str.{chars}
use lib.Utf8.{encode}
use Rattle.import_rules.proofs.Computing.{computing}
use Rattle.import_rules.proofs.examples.no_targets.Goals as goal

pub returns-clause-nothing : goal.returns-clause-nothing
unfolding chars encode
returns-clause-nothing c = search rules

pub returns-clause-digit : goal.returns-clause-digit
unfolding chars encode
returns-clause-digit c = simp computing (search (rules, computing))

pub returns-clause-name : goal.returns-clause-name
unfolding chars encode
returns-clause-name c = simp computing (search (rules, computing))

pub returns-clause-two_strings : goal.returns-clause-two_strings
unfolding chars encode
returns-clause-two_strings c = simp computing (search (rules, computing))

pub returns-clause-no_string : goal.returns-clause-no_string
unfolding chars encode
returns-clause-no_string c = simp computing (search (rules, computing))

pub returns-clause-empty_function : goal.returns-clause-empty_function
unfolding chars encode
returns-clause-empty_function c = simp computing (search (rules, computing))

pub returns-clause-another_function : goal.returns-clause-another_function
unfolding chars encode
returns-clause-another_function c = simp computing (search (rules, computing))

pub returns-clause-in_parentheses : goal.returns-clause-in_parentheses
unfolding chars encode
returns-clause-in_parentheses c = simp computing (search (rules, computing))

pub returns-clause-conditions_alone : goal.returns-clause-conditions_alone
unfolding chars encode
returns-clause-conditions_alone c = simp computing (search (rules, computing))
