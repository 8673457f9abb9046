use Rattle.std.proofs.Common.{◌≡◌, ◌≤◌, ◌-◌, length, drop}
use Rattle.selector_types.specs.AnPlusB.{after_digits}
use Rattle.selector_tokens.proofs.argument.after_digits.Given as goal

-- only what is left out was passed
abbrev pub invariant-loop-from : goal.invariant-loop-from
invariant-loop-from l = (l.from ≤ length l.text) × (after_digits (drop l.from l.text) ≡ after_digits l.text)

abbrev pub decreases-loop-from : goal.decreases-loop-from
decreases-loop-from l = length l.text - l.from
