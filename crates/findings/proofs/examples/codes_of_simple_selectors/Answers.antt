use Rattle.std.proofs.Common.{rules}
use Rattle.findings.proofs.Computing.{computing}
use Rattle.findings.proofs.examples.codes_of_simple_selectors.Goals as goal

pub returns-clause-where_of_none : goal.returns-clause-where_of_none
returns-clause-where_of_none c = simp computing (search (rules, computing))

pub returns-clause-not_of_a_class : goal.returns-clause-not_of_a_class
returns-clause-not_of_a_class c = simp computing (search (rules, computing))

pub returns-clause-not_of_a_type : goal.returns-clause-not_of_a_type
returns-clause-not_of_a_type c = simp computing (search (rules, computing))

pub returns-clause-not_of_a_local_class : goal.returns-clause-not_of_a_local_class
returns-clause-not_of_a_local_class c = simp computing (search (rules, computing))

pub returns-clause-not_of_two : goal.returns-clause-not_of_two
returns-clause-not_of_two c = simp computing (search (rules, computing))

pub returns-clause-not_of_a_compound : goal.returns-clause-not_of_a_compound
returns-clause-not_of_a_compound c = simp computing (search (rules, computing))

pub returns-clause-not_of_a_not : goal.returns-clause-not_of_a_not
returns-clause-not_of_a_not c = simp computing (search (rules, computing))

pub returns-clause-local : goal.returns-clause-local
returns-clause-local c = simp computing (search (rules, computing))

pub returns-clause-global : goal.returns-clause-global
returns-clause-global c = simp computing (search (rules, computing))

pub returns-clause-foreign : goal.returns-clause-foreign
returns-clause-foreign c = simp computing (search (rules, computing))

pub returns-clause-flag : goal.returns-clause-flag
returns-clause-flag c = simp computing (search (rules, computing))

pub returns-clause-no_flag : goal.returns-clause-no_flag
returns-clause-no_flag c = simp computing (search (rules, computing))

pub returns-clause-pseudo_class : goal.returns-clause-pseudo_class
returns-clause-pseudo_class c = simp computing (search (rules, computing))
