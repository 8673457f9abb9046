use Rattle.cascade_spec.proofs.PlaceLemmas.{places-aside}
use Rattle.cascade_spec.proofs.laws.places_do_not_count.Goals as goal

pub returns : goal.returns
returns c = places-aside
