use Rattle.std.proofs.Common.{rules}
use Rattle.std.specs.Str.{chars}
use lib.Utf8.{encode}
use Rattle.media_spelling.specs.TextComponents.{text_components}
use Rattle.media_spelling.proofs.Computing.{computing}
use Rattle.media_spelling.proofs.examples.feature_texts.Goals as goal

pub returns-clause-plain : goal.returns-clause-plain
unfolding chars encode text_components
returns-clause-plain c = simp computing (search (rules, computing))

pub returns-clause-one_bound : goal.returns-clause-one_bound
unfolding chars encode text_components
returns-clause-one_bound c = simp computing (search (rules, computing))

pub returns-clause-equal : goal.returns-clause-equal
unfolding chars encode text_components
returns-clause-equal c = simp computing (search (rules, computing))

pub returns-clause-two_bounds : goal.returns-clause-two_bounds
unfolding chars encode text_components
returns-clause-two_bounds c = simp computing (search (rules, computing))

pub returns-clause-falling_bounds : goal.returns-clause-falling_bounds
unfolding chars encode text_components
returns-clause-falling_bounds c = simp computing (search (rules, computing))

pub returns-clause-dashes_before_a_relation : goal.returns-clause-dashes_before_a_relation
unfolding chars encode text_components
returns-clause-dashes_before_a_relation c = simp computing (search (rules, computing))
