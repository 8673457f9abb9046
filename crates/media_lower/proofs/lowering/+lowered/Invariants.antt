use Rattle.std.proofs.Common.{◌≡◌, ◌++◌, flat_map}
use Rattle.media_lower.specs.MediaItems.{lowered_item}
use Rattle.media_lower.proofs.lowering.+lowered.Given as goal

abbrev pub invariant-lowered_items-loop-item : goal.invariant-lowered_items-loop-item
invariant-lowered_items-loop-item l = l.made ≡ l.fn.before ++ flat_map lowered_item l.yielded
