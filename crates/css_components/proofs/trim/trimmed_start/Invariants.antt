use Rattle.std.proofs.Common.{◌≡◌, ◌≤◌, ◌-◌, length, drop}
use Rattle.css_components.specs.Trimming.{trimmed_start}
use Rattle.css_components.proofs.trim.trimmed_start.Given as goal

-- only white space and comments were passed
abbrev pub invariant-loop-from : goal.invariant-loop-from
invariant-loop-from l = (l.from ≤ length l.components) × (trimmed_start (drop l.from l.components) ≡ trimmed_start l.components)

abbrev pub decreases-loop-from : goal.decreases-loop-from
decreases-loop-from l = length l.components - l.from
