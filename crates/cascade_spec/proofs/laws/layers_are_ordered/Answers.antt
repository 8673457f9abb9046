use Rattle.cascade_spec.proofs.LayerLemmas.{ordered}
use Rattle.cascade_spec.proofs.laws.layers_are_ordered.Goals as goal

pub returns : goal.returns
returns c = ordered
