use Rattle.std.proofs.Common.{◌≡◌, ◌+◌, drop}
use Rattle.css_tokens.specs.Private.Runs.{in_set, run_length}
use Rattle.css_tokens.specs.Tokens.{classes_of}
use Rattle.css_tokens.proofs.front.run_length.Given as goal

-- the set so far
abbrev pub invariant-loop-i : goal.invariant-loop-i
invariant-loop-i l = run_length (in_set l.set) (classes_of l.text) ≡ l.i + run_length (in_set l.set) (classes_of (drop l.i l.text))
