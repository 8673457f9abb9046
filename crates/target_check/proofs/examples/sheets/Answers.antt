use Rattle.std.proofs.Common.{rules}
use Rattle.target_check.proofs.Computing.{computing}
use Rattle.target_check.proofs.examples.sheets.Goals as goal

pub returns-clause-rule : goal.returns-clause-rule
returns-clause-rule c = simp computing (search (rules, computing))

pub returns-clause-younger_selector : goal.returns-clause-younger_selector
returns-clause-younger_selector c = simp computing (search (rules, computing))

pub returns-clause-empty_rule : goal.returns-clause-empty_rule
returns-clause-empty_rule c = simp computing (search (rules, computing))

pub returns-clause-composes : goal.returns-clause-composes
returns-clause-composes c = simp computing (search (rules, computing))

pub returns-clause-logical_property : goal.returns-clause-logical_property
returns-clause-logical_property c = simp computing (search (rules, computing))

pub returns-clause-nested_rule : goal.returns-clause-nested_rule
returns-clause-nested_rule c = simp computing (search (rules, computing))
