use Rattle.std.proofs.Common.{rules}
use Rattle.selector_types.proofs.Computing.{computing}
use Rattle.selector_types.proofs.examples.specificities_of_lists.Goals as goal

pub returns-clause-not_as_its_most : goal.returns-clause-not_as_its_most
returns-clause-not_as_its_most c = simp computing (search (rules, computing))

pub returns-clause-is_as_its_most : goal.returns-clause-is_as_its_most
returns-clause-is_as_its_most c = simp computing (search (rules, computing))

pub returns-clause-where_as_nothing : goal.returns-clause-where_as_nothing
returns-clause-where_as_nothing c = simp computing (search (rules, computing))

pub returns-clause-is_of_none : goal.returns-clause-is_of_none
returns-clause-is_of_none c = simp computing (search (rules, computing))
