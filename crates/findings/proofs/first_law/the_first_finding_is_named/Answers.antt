use Rattle.findings.proofs.Finding.{none-stands}
use Rattle.findings.proofs.FirstFinding.{first-leads, first-stands}
use Rattle.findings.proofs.first_law.the_first_finding_is_named.Goals as goal

pub returns : goal.returns
returns c = record { stands = first-stands; first = first-leads; some = none-stands }
