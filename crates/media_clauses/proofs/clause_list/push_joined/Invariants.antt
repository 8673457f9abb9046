use Rattle.std.proofs.Common.{◌≡◌, ◌++◌, map, take}
use Rattle.media_clauses.specs.Clauses.{joined}
use Rattle.media_clauses.proofs.clause_list.push_joined.Given as goal

abbrev pub invariant-loop-clause : goal.invariant-loop-clause
invariant-loop-clause l = l.out.items ≡ l.initial.out.items ++ map (joined l.left) (take l.clause-index l.right)
