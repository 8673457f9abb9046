use Rattle.std.proofs.Common.{rules}
use Rattle.cascade_spec.proofs.Computing.{computing}
use Rattle.cascade_spec.proofs.examples.declarations_win.Goals as goal

pub returns-clause-later : goal.returns-clause-later
returns-clause-later c = simp computing (search (rules, computing))

pub returns-clause-later_in_a_rule : goal.returns-clause-later_in_a_rule
returns-clause-later_in_a_rule c = simp computing (search (rules, computing))

pub returns-clause-more_specific : goal.returns-clause-more_specific
returns-clause-more_specific c = simp computing (search (rules, computing))

pub returns-clause-more_specific_and_later : goal.returns-clause-more_specific_and_later
returns-clause-more_specific_and_later c = simp computing (search (rules, computing))

pub returns-clause-important : goal.returns-clause-important
returns-clause-important c = simp computing (search (rules, computing))

pub returns-clause-normal : goal.returns-clause-normal
returns-clause-normal c = simp computing (search (rules, computing))

pub returns-clause-rejected : goal.returns-clause-rejected
returns-clause-rejected c = simp computing (search (rules, computing))

pub returns-clause-unmatched : goal.returns-clause-unmatched
returns-clause-unmatched c = simp computing (search (rules, computing))

pub returns-clause-list_by_its_matching_member : goal.returns-clause-list_by_its_matching_member
returns-clause-list_by_its_matching_member c = simp computing (search (rules, computing))

pub returns-clause-nested_by_the_most_of_its_parent : goal.returns-clause-nested_by_the_most_of_its_parent
returns-clause-nested_by_the_most_of_its_parent c = simp computing (search (rules, computing))

pub returns-clause-longhand_of_a_shorthand : goal.returns-clause-longhand_of_a_shorthand
returns-clause-longhand_of_a_shorthand c = simp computing (search (rules, computing))

pub returns-clause-longhand_over_a_shorthand : goal.returns-clause-longhand_over_a_shorthand
returns-clause-longhand_over_a_shorthand c = simp computing (search (rules, computing))

pub returns-clause-shorthand_over_a_longhand : goal.returns-clause-shorthand_over_a_longhand
returns-clause-shorthand_over_a_longhand c = simp computing (search (rules, computing))

pub returns-clause-other_longhand_later : goal.returns-clause-other_longhand_later
returns-clause-other_longhand_later c = simp computing (search (rules, computing))

pub returns-clause-later_important : goal.returns-clause-later_important
returns-clause-later_important c = simp computing (search (rules, computing))

pub returns-clause-more_specific_important : goal.returns-clause-more_specific_important
returns-clause-more_specific_important c = simp computing (search (rules, computing))

pub returns-clause-rejected_important : goal.returns-clause-rejected_important
returns-clause-rejected_important c = simp computing (search (rules, computing))

pub returns-clause-unmatched_later : goal.returns-clause-unmatched_later
returns-clause-unmatched_later c = simp computing (search (rules, computing))

pub returns-clause-second_of_three : goal.returns-clause-second_of_three
returns-clause-second_of_three c = simp computing (search (rules, computing))
