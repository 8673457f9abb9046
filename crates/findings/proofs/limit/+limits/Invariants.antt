use Rattle.std.proofs.Common.{◌≡◌, drop}
use Rattle.std.specs.List.{list_any}
use Rattle.std.specs.Prelude.{flat_map}
use Rattle.findings.specs.Limits.{is_long, item_lists}
use Rattle.findings.proofs.limit.+limits.Given as goal

-- none was met so far
abbrev pub invariant-have_long-loop-item : goal.invariant-have_long-loop-item
invariant-have_long-loop-item l = list_any is_long (flat_map item_lists (drop l.item-index l.items)) ≡ list_any is_long (flat_map item_lists l.items)
