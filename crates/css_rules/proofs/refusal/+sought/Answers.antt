use Rattle.std.proofs.Common.{◌∙◌, sym, ap}
use Rattle.std.proofs.lemmas.Result.{IfOk-weaker}
use Rattle.css_tokens.specs.Trees.{pieces_of, pieces_all}
use Rattle.css_rules.proofs.SoughtLemmas.{seek-block, seek-step, place_found}
use Rattle.css_rules.proofs.refusal.+sought.Goals as goal

pub sought_in_block-returns-in-None : goal.sought_in_block-returns-in-None
sought_in_block-returns-in-None t c =
    IfOk-weaker c.sought_in_all.result _ _
    (λ at found.
    found ∙ ap (λ items. place_found c.args.sought (pieces_all items)) c.as_slice.ensures
    ∙ sym (seek-block c.args.sought c.args.block.now (sym c.in_ok-at.ensures ∙ c.in-None.is)))
    c.sought_in_all.ensures

pub sought_in_all-returns-in-Some : goal.sought_in_all-returns-in-Some
sought_in_all-returns-in-Some t c =
    sym (seek-step c.args.sought c.args.components.now c.loop-component.component-index c.component-item.result _ c.loop-component-test.true
    (ap (λ item. place_found c.args.sought (pieces_of item)) (sym c.component-item.is) ∙ sym c.in_ok-at.ensures ∙ c.in-Some.is))
    ∙ c.loop-component.invariant

pub sought_in_all-loop-component-preserved : goal.sought_in_all-loop-component-preserved
sought_in_all-loop-component-preserved t c =
    sym (seek-step c.args.sought c.args.components.now c.loop-component.component-index c.component-item.result _ c.loop-component-test.true
    (ap (λ item. place_found c.args.sought (pieces_of item)) (sym c.component-item.is) ∙ sym c.in_ok-at.ensures ∙ c.in-None.is))
    ∙ c.loop-component.invariant
