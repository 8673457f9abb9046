use Rattle.std.proofs.Common.{◌≡◌, drop}
use Rattle.std.specs.Prelude.{flat_map}
use Rattle.css_print.specs.Private.Printed.{holds_bytes}
use Rattle.css_print.proofs.Printing.{text_among}
use Rattle.css_print.proofs.writer.+printed.Given as goal

-- nothing of the items so far is printed
abbrev pub invariant-is_any_printed-loop-item : goal.invariant-is_any_printed-loop-item
invariant-is_any_printed-loop-item l = holds_bytes (flat_map text_among (drop l.item-index l.items)) ≡ holds_bytes (flat_map text_among l.items)
