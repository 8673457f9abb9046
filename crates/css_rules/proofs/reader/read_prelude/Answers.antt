use Rattle.std.proofs.Common.{◌∙◌, sym}
use Rattle.css_rules.proofs.SheetsRead.{prelude-found}
use Rattle.css_rules.proofs.reader.read_prelude.Goals as goal

pub returns-in-Ok-clause-value : goal.returns-in-Ok-clause-value
returns-in-Ok-clause-value c none =
    prelude-found c.args.prelude.now c.args.end c.in-Ok.value (sym c.in_ok-waiting.ensures ∙ none) c.in-Ok.ensures.found
