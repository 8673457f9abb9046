use Rattle.std.proofs.Common.{◌≡◌, ◌++◌, flat_map, take}
use Rattle.media_clauses.specs.Lowered.{further_lists, lone_features}
use Rattle.media_clauses.proofs.lower.push_further_lists.Given as goal

abbrev pub invariant-loop-clause : goal.invariant-loop-clause
invariant-loop-clause l = l.out ≡ l.initial.out ++ flat_map (λ c. further_lists c (lone_features c)) (take l.clause-index l.clauses)
