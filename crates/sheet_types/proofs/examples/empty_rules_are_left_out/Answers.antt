use Rattle.std.proofs.Common.{rules}
use Rattle.sheet_types.proofs.Computing.{computing}
use Rattle.sheet_types.proofs.examples.empty_rules_are_left_out.Goals as goal

pub returns : goal.returns
returns c = simp computing (search (rules, computing))
