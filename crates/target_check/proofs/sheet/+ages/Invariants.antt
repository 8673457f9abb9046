use Rattle.std.proofs.Common.{◌≡◌, drop}
use Rattle.std.specs.List.{list_all}
use Rattle.target_check.specs.Targets.{is_old_item}
use Rattle.target_check.proofs.sheet.+ages.Given as goal

-- older browsers read the items so far
abbrev pub invariant-are_old_items-loop-item : goal.invariant-are_old_items-loop-item
invariant-are_old_items-loop-item l = list_all is_old_item (drop l.item-index l.items) ≡ list_all is_old_item l.items
