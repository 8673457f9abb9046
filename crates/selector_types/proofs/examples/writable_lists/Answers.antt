use Rattle.std.proofs.Common.{rules}
use Rattle.std.specs.Fmt.{digits}
use Rattle.std.specs.Str.{chars, is_utf8}
use lib.Utf8.{encode}
use Rattle.selector_types.proofs.Computing.{computing}
use Rattle.selector_types.proofs.examples.writable_lists.Goals as goal

pub returns-clause-empty : goal.returns-clause-empty
unfolding digits chars is_utf8 encode
returns-clause-empty c = simp computing (search (rules, computing))

pub returns-clause-foreign_in_where : goal.returns-clause-foreign_in_where
unfolding digits chars is_utf8 encode
returns-clause-foreign_in_where c = simp computing (search (rules, computing))

pub returns-clause-flag_in_global : goal.returns-clause-flag_in_global
unfolding digits chars is_utf8 encode
returns-clause-flag_in_global c = simp computing (search (rules, computing))

pub returns-clause-flag_behind_a_combinator : goal.returns-clause-flag_behind_a_combinator
unfolding digits chars is_utf8 encode
returns-clause-flag_behind_a_combinator c = simp computing (search (rules, computing))

pub returns-clause-name : goal.returns-clause-name
unfolding digits chars is_utf8 encode
returns-clause-name c = search rules

pub returns-clause-no_name : goal.returns-clause-no_name
unfolding digits chars is_utf8 encode
returns-clause-no_name c = search rules

pub returns-clause-no_id : goal.returns-clause-no_id
unfolding digits chars is_utf8 encode
returns-clause-no_id c = search rules

pub returns-clause-empty_string : goal.returns-clause-empty_string
unfolding digits chars is_utf8 encode
returns-clause-empty_string c = search rules

pub returns-clause-control : goal.returns-clause-control
unfolding digits chars is_utf8 encode
returns-clause-control c = search rules

pub returns-clause-no_text : goal.returns-clause-no_text
unfolding digits chars is_utf8 encode
returns-clause-no_text c = search rules
