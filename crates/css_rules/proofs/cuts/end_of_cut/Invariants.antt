use Rattle.std.proofs.Common.{◌≡◌, ◌≤◌, ◌-◌, false, length, slice_range}
use Rattle.std.specs.List.{list_any}
use Rattle.css_rules.specs.Private.Marks.{is_mark}
use Rattle.css_rules.proofs.cuts.end_of_cut.Given as goal

-- no mark was passed
abbrev pub invariant-loop-to : goal.invariant-loop-to
invariant-loop-to l = (l.from ≤ l.to) × (l.to ≤ length l.components) × (list_any (is_mark l.mark) (slice_range l.components l.from l.to) ≡ false)

abbrev pub decreases-loop-to : goal.decreases-loop-to
decreases-loop-to l = length l.components - l.to
