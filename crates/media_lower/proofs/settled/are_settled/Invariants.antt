use Rattle.std.proofs.Common.{◌≡◌, flat_map, take}
use Rattle.media_lower.specs.MediaItems.{lowered_item}
use Rattle.media_lower.proofs.settled.are_settled.Given as goal

abbrev pub invariant-loop-item : goal.invariant-loop-item
invariant-loop-item l = flat_map lowered_item (take l.item-index l.items) ≡ take l.item-index l.items
