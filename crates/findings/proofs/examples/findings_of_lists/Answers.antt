use Rattle.std.proofs.Common.{rules}
use Rattle.findings.proofs.Computing.{computing}
use Rattle.findings.proofs.examples.findings_of_lists.Goals as goal

pub returns-clause-within : goal.returns-clause-within
returns-clause-within c = simp computing (search (rules, computing))
