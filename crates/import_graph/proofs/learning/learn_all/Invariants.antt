use Rattle.std.proofs.Common.{◌≡◌, ◌++◌, take}
use Rattle.import_graph.specs.Places.{Places, named_in}
use Rattle.import_graph.specs.Waves.{new_among}
use Rattle.import_graph.proofs.learning.learn_all.Given as goal

abbrev pub invariant-loop-list : goal.invariant-loop-list
invariant-loop-list l = record {
  known : l.known.keys ≡ l.fn.known.keys ++ new_among l.fn.known.keys (named_in (take l.list-index l.lists));
  places : Places l.known.keys (take l.list-index l.lists) l.fn.places l.places;
}
