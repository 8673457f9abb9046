use Rattle.std.proofs.Common.{◌≡◌, ◌++◌, map, take}
use Rattle.media_clauses.specs.Lowered.{clause_queries}
use Rattle.media_clauses.proofs.lower.push_lists.Given as goal

abbrev pub invariant-loop-clause : goal.invariant-loop-clause
invariant-loop-clause l = l.out ≡ l.initial.out ++ map clause_queries (take l.clause-index l.clauses)
