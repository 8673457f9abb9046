use Rattle.std.proofs.Common.{rules}
use Rattle.css_rules.proofs.Computing.{computing}
use Rattle.css_rules.proofs.examples.sheets.waiting_preludes_are_refused.Goals as goal

pub returns : goal.returns
returns c = simp computing (search (rules, computing))
