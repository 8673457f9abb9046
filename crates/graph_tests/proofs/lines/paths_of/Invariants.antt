use Rattle.std.proofs.Common.{◌≡◌, map, take}
use Rattle.graph_tests.proofs.lines.paths_of.Given as goal

abbrev pub invariant-loop-text : goal.invariant-loop-text
invariant-loop-text l = l.paths ≡ map (λ text. text.now) (take l.text-index l.texts)
