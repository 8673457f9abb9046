use Rattle.std.proofs.Common.{◌≡◌, ◌++◌, take}
use Rattle.std.specs.Prelude.{flat_map}
use Rattle.css_print.proofs.Printing.{text_among}
use Rattle.css_print.proofs.writer.+print.Given as goal

abbrev pub invariant-write_items-loop-item : goal.invariant-write_items-loop-item
invariant-write_items-loop-item l = l.out ≡ l.initial.out ++ flat_map text_among (take l.item-index l.items)
