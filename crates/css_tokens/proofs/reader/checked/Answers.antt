use Rattle.std.proofs.Common.{sym, ◌∙◌}
use Rattle.css_tokens.proofs.Checks.{bad_utf8}
use Rattle.css_tokens.proofs.reader.checked.Goals as goal

pub returns-in-Some-clause-err : goal.returns-in-Some-clause-err
returns-in-Some-clause-err c = bad_utf8 c.args.text.now c.in-Ok.ensures.cases.1 ∙ sym c.in-Some.ensures.value

pub returns-in-None-clause-ok : goal.returns-in-None-clause-ok
returns-in-None-clause-ok c = (c.in-Ok.ensures.cases.0, bad_utf8 c.args.text.now c.in-Ok.ensures.cases.1 ∙ sym c.in-None.ensures.value)
