use Rattle.std.proofs.Common.{◌≡◌, ◌++◌, map, flat_map, take}
use Rattle.media_spelling.specs.declared.condition.Condition as condition
use Rattle.media_spelling.specs.declared.condition.Condition.{out-Condition}
use Rattle.media_clauses.specs.Lowered.{layer_features}
use Rattle.media_clauses.proofs.plain.push_parts.Given as goal

abbrev pub invariant-loop-condition : goal.invariant-loop-condition
invariant-loop-condition l = l.out ≡ l.initial.out ++ map condition.Feature (flat_map (λ c. layer_features (out-Condition c)) (take l.condition-index l.list))
