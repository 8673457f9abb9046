use Rattle.std.proofs.Common.{◌≡◌, ◌++◌, take}
use Rattle.media_clauses.proofs.copied.push_literals.Given as goal

abbrev pub invariant-loop-literal : goal.invariant-loop-literal
invariant-loop-literal l = l.out ≡ l.initial.out ++ take l.literal-index l.literals
