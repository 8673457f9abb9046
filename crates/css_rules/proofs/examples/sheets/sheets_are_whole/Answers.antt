use Rattle.std.proofs.Common.{rules}
use Rattle.css_rules.proofs.Computing.{computing}
use Rattle.css_rules.proofs.examples.sheets.sheets_are_whole.Goals as goal

pub returns-clause-no_flag : goal.returns-clause-no_flag
returns-clause-no_flag c = simp computing (search (rules, computing))

pub returns-clause-foreign : goal.returns-clause-foreign
returns-clause-foreign c = simp computing (search (rules, computing))

pub returns-clause-flag : goal.returns-clause-flag
returns-clause-flag c = simp computing (search (rules, computing))

pub returns-clause-no_declaration : goal.returns-clause-no_declaration
returns-clause-no_declaration c = simp computing (search (rules, computing))
