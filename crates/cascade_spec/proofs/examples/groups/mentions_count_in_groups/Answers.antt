use Rattle.std.proofs.Common.{rules}
use Rattle.cascade_spec.proofs.Computing.{computing}
use Rattle.cascade_spec.proofs.examples.groups.mentions_count_in_groups.Goals as goal

pub returns-clause-order_where_it_holds : goal.returns-clause-order_where_it_holds
returns-clause-order_where_it_holds c = simp computing (search (rules, computing))

pub returns-clause-order_where_it_fails : goal.returns-clause-order_where_it_fails
returns-clause-order_where_it_fails c = simp computing (search (rules, computing))
