use Rattle.std.proofs.Common.{rules}
use Rattle.std.specs.Str.{chars}
use lib.Utf8.{encode}
use Rattle.media_tree.proofs.Computing.{computing}
use Rattle.media_tree.proofs.examples.no_supports.Goals as goal

pub returns-clause-nothing : goal.returns-clause-nothing
unfolding chars encode
returns-clause-nothing c = simp computing (search (rules, computing))

pub returns-clause-important : goal.returns-clause-important
unfolding chars encode
returns-clause-important c = simp computing (search (rules, computing))

pub returns-clause-semicolon : goal.returns-clause-semicolon
unfolding chars encode
returns-clause-semicolon c = simp computing (search (rules, computing))

pub returns-clause-empty_value : goal.returns-clause-empty_value
unfolding chars encode
returns-clause-empty_value c = simp computing (search (rules, computing))

pub returns-clause-block_in_a_value : goal.returns-clause-block_in_a_value
unfolding chars encode
returns-clause-block_in_a_value c = simp computing (search (rules, computing))

pub returns-clause-no_colon : goal.returns-clause-no_colon
unfolding chars encode
returns-clause-no_colon c = simp computing (search (rules, computing))

pub returns-clause-and_with_or : goal.returns-clause-and_with_or
unfolding chars encode
returns-clause-and_with_or c = simp computing (search (rules, computing))

pub returns-clause-name_alone : goal.returns-clause-name_alone
unfolding chars encode
returns-clause-name_alone c = simp computing (search (rules, computing))
