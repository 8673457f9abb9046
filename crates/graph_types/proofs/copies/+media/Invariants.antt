use Rattle.std.proofs.Common.{◌≡◌, take}
use Rattle.graph_types.proofs.copies.+media.Given as goal

-- the copies so far are the conditions so far
abbrev pub invariant-copy_medias-loop-condition : goal.invariant-copy_medias-loop-condition
invariant-copy_medias-loop-condition l = l.copies ≡ take l.condition-index l.conditions
