use Rattle.std.proofs.Common.{rules}
use Rattle.std.specs.Fmt.{digits}
use Rattle.std.specs.Str.{chars}
use lib.Utf8.{encode}
use Rattle.media_spelling.proofs.Computing.{computing}
use Rattle.media_spelling.proofs.examples.query_texts.Goals as goal

pub returns-clause-prefixes : goal.returns-clause-prefixes
unfolding chars encode
returns-clause-prefixes c = simp computing (search (rules, computing))

pub returns-clause-name_with_an_escape : goal.returns-clause-name_with_an_escape
unfolding digits chars encode
returns-clause-name_with_an_escape c = simp computing (search (rules, computing))

pub returns-clause-boolean : goal.returns-clause-boolean
unfolding chars encode
returns-clause-boolean c = simp computing (search (rules, computing))

pub returns-clause-negation : goal.returns-clause-negation
unfolding chars encode
returns-clause-negation c = simp computing (search (rules, computing))

pub returns-clause-two_joined : goal.returns-clause-two_joined
unfolding chars encode
returns-clause-two_joined c = simp computing (search (rules, computing))

pub returns-clause-alternatives : goal.returns-clause-alternatives
unfolding chars encode
returns-clause-alternatives c = simp computing (search (rules, computing))

pub returns-clause-compound_inside : goal.returns-clause-compound_inside
unfolding chars encode
returns-clause-compound_inside c = simp computing (search (rules, computing))

pub returns-clause-behind_a_type : goal.returns-clause-behind_a_type
unfolding chars encode
returns-clause-behind_a_type c = simp computing (search (rules, computing))

pub returns-clause-negation_behind_a_type : goal.returns-clause-negation_behind_a_type
unfolding chars encode
returns-clause-negation_behind_a_type c = simp computing (search (rules, computing))

pub returns-clause-alternatives_behind_a_type : goal.returns-clause-alternatives_behind_a_type
unfolding chars encode
returns-clause-alternatives_behind_a_type c = simp computing (search (rules, computing))
