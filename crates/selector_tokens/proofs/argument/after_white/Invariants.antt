use Rattle.std.proofs.Common.{◌≡◌, ◌≤◌, ◌-◌, length, drop}
use Rattle.selector_tokens.specs.Arguments.{after_white}
use Rattle.selector_tokens.proofs.argument.after_white.Given as goal

-- only white space was passed
abbrev pub invariant-loop-from : goal.invariant-loop-from
invariant-loop-from l = (l.from ≤ length l.tokens) × (after_white (drop l.from l.tokens) ≡ after_white l.tokens)

abbrev pub decreases-loop-from : goal.decreases-loop-from
decreases-loop-from l = length l.tokens - l.from
