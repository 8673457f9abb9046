use Rattle.std.proofs.Common.{◌≡◌, ◌≤◌, ◌-◌, length, drop, slice_range}
use Rattle.css_rules.proofs.reader.take_all.Given as goal

-- what was taken so far, and what is as it was
abbrev pub invariant-loop-at : goal.invariant-loop-at
invariant-loop-at l =
    (l.place.from ≤ l.at) × (l.at ≤ l.place.to) × (length l.components ≡ length l.fn.components)
    × (l.taken ≡ slice_range l.fn.components l.place.from l.at)
    × (drop l.at l.components ≡ drop l.at l.fn.components)

abbrev pub decreases-loop-at : goal.decreases-loop-at
decreases-loop-at l = l.place.to - l.at
