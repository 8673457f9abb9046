use Rattle.std.proofs.Common.{◌∙◌, sym, ap, arith, Some, true, false}
use Rattle.css_rules.specs.Declarations.{is_important}
use Rattle.css_rules.proofs.DeclarationLemmas.{value_of-plain, value_of-second, value_of-marked}
use Rattle.css_rules.proofs.SpanLemmas.{span-of_front}
use Rattle.css_rules.proofs.declaration.marked_value.Goals as goal

pub returns-then-end-tail-clause-value : goal.returns-then-end-tail-clause-value
returns-then-end-tail-clause-value c =
    let place = span-of_front c.args.tail.now c.end_of_cut-end.result c.trimmed_span-place.result c.end_of_cut-end.ensures.within c.trimmed_span-place.ensures.within in
    ap (λ value. Some (value, false)) (sym place.0 ∙ c.trimmed_span-place.ensures.items)
    ∙ sym (value_of-plain c.args.tail.now c.end_of_cut-end.result c.if-end-tail.true c.end_of_cut-end.ensures.first)

pub returns-then-end-tail-clause-within : goal.returns-then-end-tail-clause-within
returns-then-end-tail-clause-within c =
    (span-of_front c.args.tail.now c.end_of_cut-end.result c.trimmed_span-place.result c.end_of_cut-end.ensures.within c.trimmed_span-place.ensures.within).1

pub returns-then-next-tail-clause-value : goal.returns-then-next-tail-clause-value
returns-then-next-tail-clause-value c =
    sym (value_of-second c.args.tail.now c.end_of_cut-end.result c.end_of_cut-next.result (omega arith) c.end_of_cut-end.ensures.first c.end_of_cut-next.ensures.after c.if-next-tail.true c.end_of_cut-next.ensures.first)

pub returns-then-branch-clause-value : goal.returns-then-branch-clause-value
returns-then-branch-clause-value c =
    let place = span-of_front c.args.tail.now c.end_of_cut-end.result c.trimmed_span-place.result c.end_of_cut-end.ensures.within c.trimmed_span-place.ensures.within in
    ap (λ value. Some (value, true)) (sym place.0 ∙ c.trimmed_span-place.ensures.items)
    ∙ sym (value_of-marked c.args.tail.now c.end_of_cut-end.result c.end_of_cut-next.result _ (omega arith) c.end_of_cut-end.ensures.first c.end_of_cut-next.ensures.after c.end_of_cut-next.ensures.within c.if-next-tail.false c.end_of_cut-next.ensures.first
    (ap is_important (sym c.trimmed.ensures) ∙ sym c.in_ok-is_important.ensures ∙ c.if-branch.true))

pub returns-then-branch-clause-within : goal.returns-then-branch-clause-within
returns-then-branch-clause-within c =
    (span-of_front c.args.tail.now c.end_of_cut-end.result c.trimmed_span-place.result c.end_of_cut-end.ensures.within c.trimmed_span-place.ensures.within).1

pub returns-else-branch-clause-value : goal.returns-else-branch-clause-value
returns-else-branch-clause-value c =
    sym (value_of-marked c.args.tail.now c.end_of_cut-end.result c.end_of_cut-next.result _ (omega arith) c.end_of_cut-end.ensures.first c.end_of_cut-next.ensures.after c.end_of_cut-next.ensures.within c.if-next-tail.false c.end_of_cut-next.ensures.first
    (ap is_important (sym c.trimmed.ensures) ∙ sym c.in_ok-is_important.ensures ∙ c.if-branch.false))
