use Rattle.std.proofs.Common.{◌≡◌, ◌+◌, ◌∙◌, List, drop, map, sym, ap}
use Rattle.std.proofs.Math.ListN.{drop_of_length-le}
use Rattle.css_tokens.specs.declared.component.Component.{Component}
use Rattle.media_spelling.specs.declared.condition.Condition.{Condition}
use Rattle.media_tree.specs.declared.reading.Reading.{Reading}
use Rattle.media_tree.specs.declared.sign.Sign.{Sign}
use Rattle.media_tree.specs.Conditions.{solid}
use Rattle.media_tree.specs.Private.Readings.{continued, step}
use Rattle.media_tree.specs.Queries.{makes, sign_of}
use Rattle.media_tree.proofs.ReadingLemmas.{end-reads, step-reads}
use Rattle.media_tree.proofs.ResultLemmas.{if_ok_map}
use Rattle.media_tree.proofs.TextLemmas.{at-item}
use Rattle.media_tree.proofs.query.+reads.Goals as goal

pub condition_in-loop-component-preserved : goal.condition_in-loop-component-preserved
condition_in-loop-component-preserved t c =
    let all = c.args.components.now in
    let i = c.loop-component.component-index in
    let x = c.component-item.result in
    let r = c.loop-component.reading in
    let here = at-item all i x c.loop-component-test.true c.component-item.is in
    ap (λ (s : Reading Condition). continued makes s (solid (map sign_of (drop (i + 1) all)))) (c.in_ok-reading.ensures ∙ ap (λ (w : Sign Condition). step w r) c.in_ok-sign.ensures)
    ∙ step-reads makes (sign_of x) r (map sign_of (drop (i + 1) all))
    ∙ ap (λ (cs : List Component). continued makes r (solid (map sign_of cs))) (sym here)
    ∙ c.loop-component.invariant

pub condition_in-returns : goal.condition_in-returns
condition_in-returns t c =
    let all = c.args.components.now in
    let r = c.loop-component.reading in
    if_ok_map c.finished.result
    (λ o h. h ∙ end-reads makes r ∙ ap (λ (cs : List Component). continued makes r (solid (map sign_of cs))) (sym (drop_of_length-le all c.loop-component-test.false)) ∙ c.loop-component.invariant)
    c.finished.ensures
