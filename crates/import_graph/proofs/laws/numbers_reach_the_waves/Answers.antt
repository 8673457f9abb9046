use Rattle.import_graph.proofs.Reaching.{numbers-reach, paths-apart}
use Rattle.import_graph.proofs.laws.numbers_reach_the_waves.Goals as goal

pub returns : goal.returns
returns c = record {
  reached = numbers-reach;
  once = paths-apart;
}
