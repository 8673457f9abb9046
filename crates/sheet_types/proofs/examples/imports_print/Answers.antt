use Rattle.std.proofs.Common.{rules}
use Rattle.std.specs.Str.{chars}
use lib.Utf8.{encode}
use Rattle.sheet_types.proofs.Computing.{computing}
use Rattle.sheet_types.proofs.examples.imports_print.Goals as goal

pub returns-clause-bare : goal.returns-clause-bare
unfolding chars encode
returns-clause-bare c = search (rules, computing)

pub returns-clause-media : goal.returns-clause-media
unfolding chars encode
returns-clause-media c = search (rules, computing)

pub returns-clause-both : goal.returns-clause-both
unfolding chars encode
returns-clause-both c = simp computing (search (rules, computing))

pub returns-clause-placeless : goal.returns-clause-placeless
unfolding chars encode
returns-clause-placeless c = simp computing (search (rules, computing))

pub returns-clause-first : goal.returns-clause-first
unfolding chars encode
returns-clause-first c = simp computing (search (rules, computing))
