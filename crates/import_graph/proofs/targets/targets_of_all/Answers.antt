use Rattle.std.proofs.Common.{rules}
use Rattle.import_graph.specs.Files.{names_of}
use Rattle.import_graph.proofs.Answering.{answered-map}
use Rattle.import_graph.proofs.targets.targets_of_all.Goals as goal

pub returns : goal.returns
returns g c = answered-map _ _ (names_of (g.T.Targets.names c.args.targets.now)) c.args.files.now c.in_ok-lists.lists c.in_ok-lists.ensures (λ item answer met. search rules)
