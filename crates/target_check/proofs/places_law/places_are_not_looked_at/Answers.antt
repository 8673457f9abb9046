use Rattle.target_check.proofs.Places.{old-alike}
use Rattle.target_check.proofs.places_law.places_are_not_looked_at.Goals as goal

pub returns : goal.returns
returns c = old-alike
