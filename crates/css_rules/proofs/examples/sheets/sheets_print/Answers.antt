use Rattle.std.proofs.Common.{rules}
use Rattle.std.specs.Char.{encode_utf8}
use Rattle.std.specs.Str.{chars}
use Rattle.css_rules.proofs.Computing.{computing}
use Rattle.css_rules.proofs.examples.sheets.sheets_print.Goals as goal

pub returns-clause-rule : goal.returns-clause-rule
unfolding chars encode_utf8
returns-clause-rule c = simp computing (search (rules, computing))

pub returns-clause-no_declaration : goal.returns-clause-no_declaration
unfolding chars encode_utf8
returns-clause-no_declaration c = simp computing (search (rules, computing))

pub returns-clause-two_declarations : goal.returns-clause-two_declarations
unfolding chars encode_utf8
returns-clause-two_declarations c = simp computing (search (rules, computing))

pub returns-clause-two_rules : goal.returns-clause-two_rules
unfolding chars encode_utf8
returns-clause-two_rules c = simp computing (search (rules, computing))

pub returns-clause-selectors : goal.returns-clause-selectors
unfolding chars encode_utf8
returns-clause-selectors c = simp computing (search (rules, computing))

pub returns-clause-white_space : goal.returns-clause-white_space
unfolding chars encode_utf8
returns-clause-white_space c = simp computing (search (rules, computing))

pub returns-clause-empty_custom : goal.returns-clause-empty_custom
unfolding chars encode_utf8
returns-clause-empty_custom c = simp computing (search (rules, computing))

pub returns-clause-important : goal.returns-clause-important
unfolding chars encode_utf8
returns-clause-important c = simp computing (search (rules, computing))
