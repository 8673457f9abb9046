use Rattle.findings.proofs.Old.{list-old}
use Rattle.findings.proofs.old_law.clean_selectors_are_old.Goals as goal

pub returns : goal.returns
returns c = list-old
