use Rattle.std.proofs.Common.{rules}
use Rattle.cascade_spec.proofs.Computing.{computing}
use Rattle.cascade_spec.proofs.examples.groups.declarations_count_in_groups.Goals as goal

pub returns-clause-condition_holds : goal.returns-clause-condition_holds
returns-clause-condition_holds c = simp computing (search (rules, computing))

pub returns-clause-both_hold : goal.returns-clause-both_hold
returns-clause-both_hold c = simp computing (search (rules, computing))

pub returns-clause-earlier_beside_it : goal.returns-clause-earlier_beside_it
returns-clause-earlier_beside_it c = simp computing (search (rules, computing))

pub returns-clause-no_more_specific_for_it : goal.returns-clause-no_more_specific_for_it
returns-clause-no_more_specific_for_it c = simp computing (search (rules, computing))
