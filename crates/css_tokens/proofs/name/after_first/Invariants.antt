use Rattle.std.proofs.Common.{◌≡◌, drop}
use Rattle.css_tokens.specs.Names.{after_first}
use Rattle.css_tokens.proofs.name.after_first.Given as goal

abbrev pub invariant-loop-i : goal.invariant-loop-i
invariant-loop-i l = after_first l.byte (drop l.i l.text) ≡ after_first l.byte l.text
