use Rattle.std.proofs.Common.{◌∙◌, sym, option_map}
use Rattle.css_rules.specs.Private.Spans.{declared_in}
use Rattle.css_rules.proofs.SheetsRead.{plain-found}
use Rattle.css_rules.proofs.reader.read_plain.Goals as goal

pub returns-clause-value : goal.returns-clause-value
returns-clause-value c none =
    plain-found c.args.item.now (option_map (declared_in c.args.item.now) c.in_ok-value.value) _ c.in-len1-up.len_at_least c.in_ok-value.ensures.found (sym c.in_ok-refusal.ensures ∙ none)
