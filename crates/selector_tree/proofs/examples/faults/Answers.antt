use Rattle.std.proofs.Common.{rules}
use Rattle.selector_tree.proofs.Computing.{computing}
use Rattle.selector_tree.proofs.examples.faults.Goals as goal

pub returns-clause-nothing_between : goal.returns-clause-nothing_between
returns-clause-nothing_between c = simp computing (search (rules, computing))

pub returns-clause-empty_not : goal.returns-clause-empty_not
returns-clause-empty_not c = simp computing (search (rules, computing))

pub returns-clause-comma_in_is : goal.returns-clause-comma_in_is
returns-clause-comma_in_is c = simp computing (search (rules, computing))

pub returns-clause-two_compounds_in_local : goal.returns-clause-two_compounds_in_local
returns-clause-two_compounds_in_local c = simp computing (search (rules, computing))

pub returns-clause-part_behind_an_element : goal.returns-clause-part_behind_an_element
returns-clause-part_behind_an_element c = simp computing (search (rules, computing))

pub returns-clause-compound_behind_an_element : goal.returns-clause-compound_behind_an_element
returns-clause-compound_behind_an_element c = simp computing (search (rules, computing))

pub returns-clause-operator_apart : goal.returns-clause-operator_apart
returns-clause-operator_apart c = simp computing (search (rules, computing))

pub returns-clause-lead_outside : goal.returns-clause-lead_outside
returns-clause-lead_outside c = simp computing (search (rules, computing))
