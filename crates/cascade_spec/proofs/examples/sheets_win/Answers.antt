use Rattle.std.proofs.Common.{rules}
use Rattle.cascade_spec.proofs.Computing.{computing}
use Rattle.cascade_spec.proofs.examples.sheets_win.Goals as goal

pub returns-clause-later : goal.returns-clause-later
returns-clause-later c = simp computing (search (rules, computing))

pub returns-clause-later_in_a_rule : goal.returns-clause-later_in_a_rule
returns-clause-later_in_a_rule c = simp computing (search (rules, computing))

pub returns-clause-more_specific : goal.returns-clause-more_specific
returns-clause-more_specific c = simp computing (search (rules, computing))

pub returns-clause-important : goal.returns-clause-important
returns-clause-important c = simp computing (search (rules, computing))

pub returns-clause-no_layer : goal.returns-clause-no_layer
returns-clause-no_layer c = simp computing (search (rules, computing))
