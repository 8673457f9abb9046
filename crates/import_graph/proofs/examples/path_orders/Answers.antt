use Rattle.std.proofs.Common.{refl}
use Rattle.import_graph.specs.Places.{path_order}
use Rattle.import_graph.proofs.examples.path_orders.Goals as goal

pub returns : goal.returns
unfolding path_order
returns c = refl
