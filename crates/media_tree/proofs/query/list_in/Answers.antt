use Rattle.std.proofs.Common.{◌≡◌, ◌+◌, ◌∙◌, List, drop, map, sym, ap}
use Rattle.std.proofs.Math.ListN.{drop_of_length-le}
use Rattle.css_tokens.specs.declared.component.Component.{Component}
use Rattle.media_spelling.specs.declared.condition.Condition.{Condition}
use Rattle.media_tree.specs.declared.query.Listing.{Listing}
use Rattle.media_tree.specs.declared.sign.Sign.{Sign}
use Rattle.media_tree.specs.Conditions.{solid}
use Rattle.media_tree.specs.Private.Readings.{list_from, list_step}
use Rattle.media_tree.specs.Queries.{sign_of}
use Rattle.media_tree.proofs.ReadingLemmas.{list-ends, list-reads}
use Rattle.media_tree.proofs.ResultLemmas.{if_ok_map}
use Rattle.media_tree.proofs.TextLemmas.{at-item}
use Rattle.media_tree.proofs.query.list_in.Goals as goal

pub loop-component-preserved : goal.loop-component-preserved
loop-component-preserved c =
    let all = c.args.components.now in
    let i = c.loop-component.component-index in
    let x = c.component-item.result in
    let l = c.loop-component.listing in
    let here = at-item all i x c.loop-component-test.true c.component-item.is in
    ap (λ (s : Listing). list_from s (solid (map sign_of (drop (i + 1) all)))) (c.in_ok-listing.ensures ∙ ap (λ (w : Sign Condition). list_step w l) c.in_ok-sign.ensures)
    ∙ list-reads (sign_of x) l (map sign_of (drop (i + 1) all))
    ∙ ap (λ (cs : List Component). list_from l (solid (map sign_of cs))) (sym here)
    ∙ c.loop-component.invariant

pub returns : goal.returns
returns c =
    let all = c.args.components.now in
    let l = c.loop-component.listing in
    if_ok_map c.list_end.result
    (λ o h. h ∙ list-ends l ∙ ap (λ (cs : List Component). list_from l (solid (map sign_of cs))) (sym (drop_of_length-le all c.loop-component-test.false)) ∙ c.loop-component.invariant)
    c.list_end.ensures
