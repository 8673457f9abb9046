use Rattle.std.proofs.Common.{sym, ◌∙◌}
use Rattle.findings.specs.Constructs.{sheet_findings}
use Rattle.findings.proofs.Finding.{none-stands}
use Rattle.findings.proofs.clean.check.Goals as goal

pub invariant_of-result : goal.invariant_of-result
invariant_of-result c = (none-stands (sheet_findings 0 c.args.sheet.now) (sym c.first_finding.ensures ∙ c.in-None.is), sym c.sheet_limit.ensures ∙ c.in-None-sheet_limit.is)

pub returns-in-None-sheet_limit-clause-nothing : goal.returns-in-None-sheet_limit-clause-nothing
returns-in-None-sheet_limit-clause-nothing c = none-stands (sheet_findings 0 c.args.sheet.now) (sym c.first_finding.ensures ∙ c.in-None.is)
