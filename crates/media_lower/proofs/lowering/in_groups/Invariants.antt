use Rattle.std.proofs.Common.{◌≡◌, length}
use Rattle.media_lower.specs.MediaItems.{in_groups}
use Rattle.media_lower.proofs.lowering.in_groups.Given as goal

abbrev pub invariant-loop-list : goal.invariant-loop-list
invariant-loop-list l = in_groups l.at l.outer l.inner ≡ in_groups l.at l.fn.lists l.fn.items

abbrev pub decreases-loop-list : goal.decreases-loop-list
decreases-loop-list l = length l.outer
