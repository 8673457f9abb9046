use Rattle.std.proofs.Common.{◌≡◌, ◌≤◌, ◌-◌, length, drop}
use Rattle.selector_types.specs.AnPlusB.{after_spaces}
use Rattle.selector_tokens.proofs.argument.after_spaces.Given as goal

-- only what is left out was passed
abbrev pub invariant-loop-from : goal.invariant-loop-from
invariant-loop-from l = (l.from ≤ length l.text) × (after_spaces (drop l.from l.text) ≡ after_spaces l.text)

abbrev pub decreases-loop-from : goal.decreases-loop-from
decreases-loop-from l = length l.text - l.from
