use Rattle.std.proofs.Common.{◌≡◌, ◌≤◌, ◌∙◌, sym, ap, arith, slice_range, slice_get, subst, None, Some, IfSome, option_map}
use Rattle.std.proofs.lemmas.List.{take_rest}
use Rattle.std.specs.Option.{option_to_list}
use Rattle.css_rules.specs.Private.Marks.{EndsAt, is_mark}
use Rattle.css_rules.specs.Private.Spans.{declared_in}
use Rattle.css_rules.specs.Refusals.{first_refusal}
use Rattle.css_rules.specs.Sheets.{item_of, item_refusals}
use Rattle.css_rules.specs.RuleEnds.{ends_item}
use Rattle.css_rules.proofs.CutLemmas.{first-cut}
use Rattle.css_rules.proofs.SpanLemmas.{below-option, found-option}
use Rattle.css_rules.proofs.reader.read_next.Goals as goal

pub returns-clause-ends : goal.returns-clause-ends
returns-clause-ends c =
    first-cut ends_item (is_mark c.in_ok-mark.mark) c.args.block.now c.args.from c.end_of_cut-end.result c.end_of_cut-end.ensures.after c.end_of_cut-end.ensures.within c.end_of_cut-end.ensures.first
    (subst (EndsAt ends_item (is_mark c.in_ok-mark.mark)) (take_rest c.args.block.now c.args.from) c.in_ok-mark.ensures)

pub returns-clause-refusal : goal.returns-clause-refusal
returns-clause-refusal c =
    c.in_ok-item.ensures.refusal
    ∙ ap (λ mark. first_refusal (item_refusals (record { front = slice_range c.args.block.now c.args.from c.end_of_cut-end.result; mark = mark }))) c.mark_at.ensures

pub returns-clause-value : goal.returns-clause-value
returns-clause-value c none =
    ap (λ mark. item_of (record { front = slice_range c.args.block.now c.args.from c.end_of_cut-end.result; mark = mark })) (sym c.mark_at.ensures)
    ∙ c.in_ok-item.ensures.value none
    ∙ ap (λ o. Some (option_to_list o)) (sym (found-option c.args.block.now c.args.from c.end_of_cut-end.result c.in_ok-item.item.value c.end_of_cut-end.ensures.within c.in_ok-item.ensures.within))
    ∙ ap (λ o. Some (option_to_list (option_map (declared_in c.args.block.now) o))) (sym c.behind.ensures)

pub returns-clause-found : goal.returns-clause-found
returns-clause-found c =
    subst (λ o. IfSome o (λ f. (f.value.from ≤ f.value.to) × (f.value.to ≤ c.end_of_cut-end.result))) (sym c.behind.ensures)
    (below-option c.args.block.now c.args.from c.end_of_cut-end.result c.in_ok-item.item.value c.end_of_cut-end.ensures.after c.end_of_cut-end.ensures.within c.in_ok-item.ensures.within)
