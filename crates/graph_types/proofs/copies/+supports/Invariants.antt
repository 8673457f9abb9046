use Rattle.std.proofs.Common.{◌≡◌, take}
use Rattle.graph_types.proofs.copies.+supports.Given as goal

-- the copies so far are the conditions so far
abbrev pub invariant-copy_all_supports-loop-condition : goal.invariant-copy_all_supports-loop-condition
invariant-copy_all_supports-loop-condition l = l.copies ≡ take l.condition-index l.conditions
