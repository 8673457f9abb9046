use Rattle.import_graph.proofs.WaveLaws.{some-end, not-both, one-all, one-cut}
use Rattle.import_graph.proofs.laws.waves_have_one_end.Goals as goal

pub returns : goal.returns
returns c = record {
  some = some-end;
  either = not-both;
  one_all = one-all;
  one_cut = one-cut;
}
