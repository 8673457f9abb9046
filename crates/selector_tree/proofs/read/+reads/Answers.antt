use Rattle.std.proofs.Common.{List, drop, map, ap, sym, ◌∙◌, ◌+◌}
use Rattle.std.proofs.Math.ListN.{drop_of_length-le}
use Rattle.std.proofs.lemmas.List.Folds.{list_all-map}
use Rattle.css_tokens.specs.declared.component.Component.{Component}
use Rattle.selector_tree.specs.declared.reading.Listing.{Listing}
use Rattle.selector_tree.specs.declared.sign.Callee.{Callee}
use Rattle.selector_tree.specs.Signs.{call_by, callee_of, is_gap, mark_of}
use Rattle.selector_tree.specs.Private.ReadingSteps.{behind_list, fresh, list_from}
use Rattle.selector_tree.proofs.SignsRead.{behind-none, list-fresh}
use Rattle.selector_tree.proofs.ListingReads.{step-reads}
use Rattle.selector_tree.proofs.ResultLemmas.{if_ok_map}
use Rattle.selector_types.proofs.WritingLemmas.{at-item}
use Rattle.selector_tree.proofs.read.+reads.Goals as goal

pub listing_of-loop-component-init : goal.listing_of-loop-component-init
listing_of-loop-component-init t c = λ end.
    (let ms = map mark_of c.args.components.now in
    ap (λ (l : Listing). behind_list l.list (list_from c.args.nested l.pending ms end)) c.fresh-listing.ensures
    ∙ behind-none (list_from c.args.nested (fresh c.args.nested) ms end)
    ∙ list-fresh c.args.nested ms end)

pub listing_of-loop-component-preserved : goal.listing_of-loop-component-preserved
listing_of-loop-component-preserved t c = λ end.
    (let l = c.loop-component.listing in
    let i = c.loop-component.component-index in
    let all = c.args.components.now in
    let m = mark_of c.component-item.result in
    let here = at-item all i c.component-item.result c.loop-component-test.true c.component-item.is in
    step-reads c.args.nested l c.step_over.new.listing m (map mark_of (drop (i + 1) all)) end c.in_default.ensures.found
    ∙ ap (λ (cs : List Component). behind_list l.list (list_from c.args.nested l.pending (map mark_of cs) end)) (sym here)
    ∙ c.loop-component.invariant end)

pub listing_of-returns : goal.listing_of-returns
listing_of-returns t c = λ end.
    (let l = c.loop-component.listing in
    ap (λ (cs : List Component). behind_list l.list (list_from c.args.nested l.pending (map mark_of cs) end)) (sym (drop_of_length-le c.args.components.now c.loop-component-test.false))
    ∙ c.loop-component.invariant end)

pub call_of-returns-then-takes_list : goal.call_of-returns-then-takes_list
call_of-returns-then-takes_list t c =
    let ms = map mark_of c.args.components.now in
    let callee = c.callee_of-callee.ensures ∙ ap callee_of c.as_str.ensures in
    let nothing = c.is_nothing.ensures ∙ sym (list_all-map (λ m. is_gap m.token) mark_of c.args.components.now) in
    if_ok_map c.list_call.result
    (λ x h. h c.args.name ms (sym c.takes_list.ensures ∙ c.if-takes_list.true) c.listing_of-read.ensures nothing ∙ ap (λ (k : Callee). call_by k c.args.name ms) callee)
    c.list_call.ensures
