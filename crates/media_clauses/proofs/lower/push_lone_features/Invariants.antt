use Rattle.std.proofs.Common.{◌≡◌, ◌++◌, map, flat_map, take}
use Rattle.media_spelling.specs.declared.condition.Condition as condition
use Rattle.media_clauses.specs.Lowered.{lone_features}
use Rattle.media_clauses.proofs.lower.push_lone_features.Given as goal

abbrev pub invariant-loop-clause : goal.invariant-loop-clause
invariant-loop-clause l = l.out ≡ l.initial.out ++ map condition.Feature (flat_map lone_features (take l.clause-index l.clauses))
