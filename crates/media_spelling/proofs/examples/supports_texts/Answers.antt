use Rattle.std.proofs.Common.{rules}
use Rattle.std.specs.Str.{chars}
use lib.Utf8.{encode}
use Rattle.media_spelling.proofs.Computing.{computing}
use Rattle.media_spelling.proofs.examples.supports_texts.Goals as goal

pub returns-clause-declaration : goal.returns-clause-declaration
unfolding chars encode
returns-clause-declaration c = simp computing (search (rules, computing))

pub returns-clause-white_space_in_a_value : goal.returns-clause-white_space_in_a_value
unfolding chars encode
returns-clause-white_space_in_a_value c = simp computing (search (rules, computing))

pub returns-clause-empty_value : goal.returns-clause-empty_value
unfolding chars encode
returns-clause-empty_value c = simp computing (search (rules, computing))

pub returns-clause-negation_inside : goal.returns-clause-negation_inside
unfolding chars encode
returns-clause-negation_inside c = simp computing (search (rules, computing))
