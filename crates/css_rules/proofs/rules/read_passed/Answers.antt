use Rattle.std.proofs.Common.{◌∙◌, sym, ap, None}
use Rattle.css_rules.specs.declared.refusal.Sought.TheVariants.{RevertLayerOrUrl}
use Rattle.css_rules.specs.Refusals.{first_refusal, sought_in}
use Rattle.css_rules.proofs.RulesReader.{passed-read, passed-refused}
use Rattle.css_rules.proofs.rules.read_passed.Goals as goal

pub returns-clause-value : goal.returns-clause-value
returns-clause-value c none =
    let first = c.in_ok-before.ensures ∙ ap (λ cs. first_refusal (sought_in RevertLayerOrUrl cs)) c.as_slice.ensures in
    let second = c.in_ok-within.ensures ∙ ap (λ cs. first_refusal (sought_in RevertLayerOrUrl cs)) c.as_slice-2.ensures in
    let refusal = passed-refused c.args.prelude c.args.block c.in_ok-before.before c.in_ok-within.within c.sooner_of.result first second c.sooner_of.ensures in
    passed-read c.args.at c.args.kind c.args.prelude c.args.block None (sym refusal ∙ none)
