use Rattle.target_check.proofs.Built.{built-old, logical-waits}
use Rattle.target_check.proofs.built_law.built_declarations_are_old.Goals as goal

pub returns : goal.returns
returns c = record { logical = logical-waits; old = built-old }
