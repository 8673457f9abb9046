use Rattle.std.proofs.Common.{◌≡◌, ◌≤◌, IfSome, drop}
use Rattle.css_tokens.specs.Tokens.{classes_of}
use Rattle.css_tokens.proofs.Fronts.{longest_in, after_best}
use Rattle.css_tokens.proofs.reader.longest_front.Given as goal

-- the longest front is the longest from here on, or else the best so far
abbrev pub invariant-loop-i : goal.invariant-loop-i
invariant-loop-i l = record {
  value : longest_in l.fn.start (classes_of l.text) ≡ after_best l.i (longest_in l.state (classes_of (drop l.i l.text))) l.best;
  within : IfSome l.best (λ front. front.1 ≤ l.i);
}
