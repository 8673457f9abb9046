use Rattle.std.proofs.Common.{rules}
use Rattle.std.specs.Str.{chars}
use lib.Utf8.{encode}
use Rattle.findings.proofs.Computing.{computing}
use Rattle.findings.proofs.examples.findings_of_groups.Goals as goal

pub returns-clause-other : goal.returns-clause-other
unfolding chars encode
returns-clause-other c = simp computing (search (rules, computing))

pub returns-clause-other_in_a_group : goal.returns-clause-other_in_a_group
unfolding chars encode
returns-clause-other_in_a_group c = simp computing (search (rules, computing))

pub returns-clause-passed_on : goal.returns-clause-passed_on
unfolding chars encode
returns-clause-passed_on c = simp computing (search (rules, computing))

pub returns-clause-young_under_not : goal.returns-clause-young_under_not
unfolding chars encode
returns-clause-young_under_not c = simp computing (search (rules, computing))

pub returns-clause-two_functions : goal.returns-clause-two_functions
unfolding chars encode
returns-clause-two_functions c = simp computing (search (rules, computing))

pub returns-clause-condition_first : goal.returns-clause-condition_first
unfolding chars encode
returns-clause-condition_first c = simp computing (search (rules, computing))
