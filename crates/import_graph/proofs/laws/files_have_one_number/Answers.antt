use Rattle.import_graph.proofs.Apart.{order-apart}
use Rattle.import_graph.proofs.laws.files_have_one_number.Goals as goal

pub returns : goal.returns
returns c = order-apart
