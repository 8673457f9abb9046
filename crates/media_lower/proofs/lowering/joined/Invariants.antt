use Rattle.std.proofs.Common.{◌≡◌, ◌++◌}
use Rattle.media_lower.proofs.lowering.joined.Given as goal

abbrev pub invariant-loop-item : goal.invariant-loop-item
invariant-loop-item l = l.made ≡ l.fn.before ++ l.yielded
