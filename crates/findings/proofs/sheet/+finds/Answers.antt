use Rattle.std.proofs.Common.{sym, ◌∙◌, ap}
use Rattle.sheet_types.specs.declared.sheet.Group.{Group}
use Rattle.sheet_types.specs.declared.sheet.Style.{Style}
use Rattle.findings.specs.Constructs.{condition_findings, found-Style, item_findings, items_findings, list_findings}
use Rattle.findings.specs.Firsts.{first_from}
use Rattle.findings.proofs.Finding.{found-append, found-next}
use Rattle.findings.proofs.sheet.+finds.Goals as goal

pub in_items-loop-item-preserved : goal.in_items-loop-item-preserved
in_items-loop-item-preserved t c =
    let item = c.item-item.result in
    c.in_item-best.ensures
    ∙ ap (λ b. first_from b (item_findings c.args.file item)) c.loop-item.invariant
    ∙ sym (found-next c.args.best (item_findings c.args.file) c.args.items.now c.loop-item.item-index item c.loop-item-test.true c.item-item.is)

pub in_item-returns-in-Style : goal.in_item-returns-in-Style
in_item-returns-in-Style t c =
    c.in_style.ensures
    ∙ sym (ap (first_from c.args.best) (found-Style c.args.file c.in-Style.style))
    ∙ ap (λ x. first_from c.args.best (item_findings c.args.file x)) (sym c.in-Style.is)

pub in_style-returns : goal.in_style-returns
in_style-returns t c =
    let s : Style = c.args.style.now in
    let file = c.args.file in
    c.in_items.ensures
    ∙ ap (λ xs. first_from c.in_list-best.result (items_findings file xs)) c.as_slice-2.ensures
    ∙ ap (λ b. first_from b (items_findings file s.items)) (c.in_list-best.ensures ∙ ap (λ ss. first_from c.args.best (list_findings file ss)) c.as_slice.ensures)
    ∙ sym (found-append c.args.best (list_findings file s.selectors) (items_findings file s.items))

pub in_group-returns : goal.in_group-returns
in_group-returns t c =
    let g : Group = c.args.group.now in
    let file = c.args.file in
    c.in_items.ensures
    ∙ ap (λ xs. first_from c.in_condition-best.result (items_findings file xs)) c.as_slice.ensures
    ∙ ap (λ b. first_from b (items_findings file g.items)) c.in_condition-best.ensures
    ∙ sym (found-append c.args.best (condition_findings file g.at g.condition) (items_findings file g.items))
