use Rattle.import_graph.proofs.Distinct.{each-once}
use Rattle.import_graph.proofs.laws.paths_stand_in_one_wave.Goals as goal

pub returns : goal.returns
returns c = each-once
