use Rattle.std.proofs.Common.{◌≡◌, take}
use Rattle.graph_types.proofs.copies.copy_conditions.Given as goal

-- the copies so far are the conditions so far
abbrev pub invariant-loop-condition : goal.invariant-loop-condition
invariant-loop-condition l = l.copies ≡ take l.condition-index l.conditions
