use Rattle.std.proofs.Common.{◌∙◌, sym, ap}
use Rattle.css_components.specs.Components.{head, inside}
use Rattle.css_rules.specs.Refusals.{sooner_of, first_refusal}
use Rattle.css_rules.specs.Sheets.{prelude_refusals, block_refusals}
use Rattle.css_rules.proofs.RefusalLemmas.{first_refusal-append}
use Rattle.css_rules.proofs.reader.read_style.Goals as goal

pub returns-clause-refusal : goal.returns-clause-refusal
returns-clause-refusal c =
    let prelude = prelude_refusals c.args.prelude.now (head c.args.block).at in
    let block = block_refusals (inside c.args.block) in
    c.sooner_of-refusal.ensures
    ∙ ap (λ r. sooner_of r c.in_ok-declarations.declarations.refusal)
    (c.in_ok-selectors.ensures.refusal ∙ ap (λ at. first_refusal (prelude_refusals c.args.prelude.now at)) c.place_of-opening.ensures)
    ∙ ap (sooner_of (first_refusal prelude)) (c.in_ok-declarations.ensures.refusal ∙ ap (λ items. first_refusal (block_refusals items)) c.into_inside.ensures)
    ∙ sym (first_refusal-append prelude block)
