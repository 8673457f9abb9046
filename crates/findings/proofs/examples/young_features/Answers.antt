use Rattle.std.proofs.Common.{rules}
use Rattle.std.specs.Str.{chars}
use lib.Utf8.{encode}
use Rattle.findings.proofs.Computing.{computing}
use Rattle.findings.proofs.examples.young_features.Goals as goal

pub returns-clause-old_under_not : goal.returns-clause-old_under_not
unfolding chars encode
returns-clause-old_under_not c = simp computing (search (rules, computing))

pub returns-clause-no_not : goal.returns-clause-no_not
unfolding chars encode
returns-clause-no_not c = simp computing (search (rules, computing))

pub returns-clause-under_not : goal.returns-clause-under_not
unfolding chars encode
returns-clause-under_not c = simp computing (search (rules, computing))

pub returns-clause-under_a_prefix : goal.returns-clause-under_a_prefix
unfolding chars encode
returns-clause-under_a_prefix c = simp computing (search (rules, computing))

pub returns-clause-another_prefix : goal.returns-clause-another_prefix
unfolding chars encode
returns-clause-another_prefix c = simp computing (search (rules, computing))

pub returns-clause-deep_under_not : goal.returns-clause-deep_under_not
unfolding chars encode
returns-clause-deep_under_not c = simp computing (search (rules, computing))

pub returns-clause-beside_a_not : goal.returns-clause-beside_a_not
unfolding chars encode
returns-clause-beside_a_not c = simp computing (search (rules, computing))

pub returns-clause-range_under_not : goal.returns-clause-range_under_not
unfolding chars encode
returns-clause-range_under_not c = simp computing (search (rules, computing))
