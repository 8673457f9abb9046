use Rattle.std.proofs.Common.{◌≡◌, ◌++◌, reverse, drop}
use Rattle.import_graph.proofs.numbering.push_reversed.Given as goal

abbrev pub invariant-loop-at : goal.invariant-loop-at
invariant-loop-at l = l.stack.items ≡ l.fn.stack.items ++ reverse (drop l.at l.files)
