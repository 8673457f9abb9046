use Rattle.std.proofs.Common.{rules}
use Rattle.cascade_spec.proofs.Computing.{computing}
use Rattle.cascade_spec.proofs.examples.layers_win.Goals as goal

pub returns-clause-by_the_order_of_mention : goal.returns-clause-by_the_order_of_mention
returns-clause-by_the_order_of_mention c = simp computing (search (rules, computing))

pub returns-clause-by_the_order_of_mention_important : goal.returns-clause-by_the_order_of_mention_important
returns-clause-by_the_order_of_mention_important c = simp computing (search (rules, computing))
