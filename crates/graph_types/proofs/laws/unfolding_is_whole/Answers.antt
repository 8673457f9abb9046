use Rattle.graph_types.proofs.Bounds.{one_more_file}
use Rattle.graph_types.proofs.laws.unfolding_is_whole.Goals as goal

pub returns : goal.returns
returns c = λ graph whole chain around file within. one_more_file graph whole chain around file within
