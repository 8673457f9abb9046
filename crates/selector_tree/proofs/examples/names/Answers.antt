use Rattle.std.proofs.Common.{rules}
use Rattle.std.specs.Fmt.{digits}
use Rattle.std.specs.Str.{chars}
use lib.Utf8.{encode}
use Rattle.selector_tree.proofs.Computing.{computing}
use Rattle.selector_tree.proofs.examples.names.Goals as goal

pub returns-clause-escaped_type : goal.returns-clause-escaped_type
unfolding digits chars encode
returns-clause-escaped_type c = simp computing (search (rules, computing))

pub returns-clause-beyond_ascii : goal.returns-clause-beyond_ascii
unfolding digits chars encode
returns-clause-beyond_ascii c = simp computing (search (rules, computing))

pub returns-clause-escaped_id : goal.returns-clause-escaped_id
unfolding digits chars encode
returns-clause-escaped_id c = simp computing (search (rules, computing))

pub returns-clause-dashes_as_an_id : goal.returns-clause-dashes_as_an_id
unfolding digits chars encode
returns-clause-dashes_as_an_id c = simp computing (search (rules, computing))

pub returns-clause-digit_is_no_id : goal.returns-clause-digit_is_no_id
unfolding digits chars encode
returns-clause-digit_is_no_id c = simp computing (search (rules, computing))

pub returns-clause-digit_behind_a_dash_is_no_id : goal.returns-clause-digit_behind_a_dash_is_no_id
unfolding digits chars encode
returns-clause-digit_behind_a_dash_is_no_id c = simp computing (search (rules, computing))

pub returns-clause-escaped_letter : goal.returns-clause-escaped_letter
unfolding digits chars encode
returns-clause-escaped_letter c = simp computing (search (rules, computing))

pub returns-clause-kept_as_it_prints : goal.returns-clause-kept_as_it_prints
unfolding digits chars encode
returns-clause-kept_as_it_prints c = simp computing (search (rules, computing))

pub returns-clause-escaped_lang : goal.returns-clause-escaped_lang
unfolding digits chars encode
returns-clause-escaped_lang c = simp computing (search (rules, computing))

pub returns-clause-lang_as_it_prints : goal.returns-clause-lang_as_it_prints
unfolding digits chars encode
returns-clause-lang_as_it_prints c = simp computing (search (rules, computing))
