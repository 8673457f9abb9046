use Rattle.std.proofs.Common.{◌≡◌, drop}
use Rattle.css_rules.specs.Refusals.{holds}
use Rattle.css_rules.proofs.reader.holds.Given as goal

-- the word does not begin at any place so far
abbrev pub invariant-loop-from : goal.invariant-loop-from
invariant-loop-from l = holds l.word (drop l.from l.text) ≡ holds l.word l.text
