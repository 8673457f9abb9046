use Rattle.std.proofs.Common.{◌≡◌, ◌≤◌, length, take}
use Rattle.css_components.specs.Trimming.{trimmed_end}
use Rattle.css_components.proofs.trim.trimmed_end.Given as goal

-- only white space and comments were passed
abbrev pub invariant-loop-to : goal.invariant-loop-to
invariant-loop-to l = (l.to ≤ length l.components) × (trimmed_end (take l.to l.components) ≡ trimmed_end l.components)

abbrev pub decreases-loop-to : goal.decreases-loop-to
decreases-loop-to l = l.to
