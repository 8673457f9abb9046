use Rattle.std.proofs.Common.{◌≡◌, ◌++◌, take}
use Rattle.import_graph.specs.Places.{ArePlaced}
use Rattle.import_graph.specs.Waves.{new_among}
use Rattle.import_graph.proofs.learning.learn.Given as goal

abbrev pub invariant-loop-path : goal.invariant-loop-path
invariant-loop-path l = record {
  known : l.known.keys ≡ l.fn.known.keys ++ new_among l.fn.known.keys (take l.path-index l.paths);
  placed : ArePlaced l.known.keys (take l.path-index l.paths) l.places;
}
