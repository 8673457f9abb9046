use Rattle.std.specs.Prelude.{flat_map}
use Rattle.std.proofs.Common.{◌∷◌, sym, ◌∙◌, ap}
use Rattle.selector_types.specs.PartsFound.{parts-Selector}
use Rattle.selector_types.specs.PartsWithin.{compound_parts, selector_parts, simple_parts}
use Rattle.selector_types.specs.SelectorFold.{compound_of, simple_of}
use Rattle.selector_types.specs.declared.selector.Selector.{Selector}
use Rattle.findings.specs.Constructs.{part_findings}
use Rattle.findings.specs.Firsts.{first_from}
use Rattle.findings.proofs.Finding.{first-append, first-next}
use Rattle.findings.proofs.selector.+finds.Goals as goal

pub in_links-loop-link-preserved : goal.in_links-loop-link-preserved
in_links-loop-link-preserved t c =
    let item = c.link-item.result in
    c.in_link-best.ensures
    ∙ ap (λ b. first_from b (part_findings c.args.file (compound_parts (compound_of item)))) c.loop-link.invariant
    ∙ sym (first-next c.args.file c.args.best (λ l. compound_parts (compound_of l)) c.args.links.now c.loop-link.link-index item c.loop-link-test.true c.link-item.is)

pub in_list-loop-selector-preserved : goal.in_list-loop-selector-preserved
in_list-loop-selector-preserved t c =
    let item = c.selector-item.result in
    c.in_selector-best.ensures
    ∙ ap (λ b. first_from b (part_findings c.args.file (selector_parts item))) c.loop-selector.invariant
    ∙ sym (first-next c.args.file c.args.best selector_parts c.args.list.now c.loop-selector.selector-index item c.loop-selector-test.true c.selector-item.is)

pub in_parts-loop-part-preserved : goal.in_parts-loop-part-preserved
in_parts-loop-part-preserved t c =
    let item = c.part-item.result in
    c.in_part-best.ensures
    ∙ ap (λ b. first_from b (part_findings c.args.file (item ∷ simple_parts (simple_of item)))) c.loop-part.invariant
    ∙ sym (first-next c.args.file c.args.best (λ p. p ∷ simple_parts (simple_of p)) c.args.parts.now c.loop-part.part-index item c.loop-part-test.true c.part-item.is)

pub in_selector-returns : goal.in_selector-returns
in_selector-returns t c =
    let s : Selector = c.args.selector.now in
    c.in_links.ensures
    ∙ ap (λ ls. first_from c.in_compound-best.result (part_findings c.args.file (flat_map (λ l. compound_parts (compound_of l)) ls))) c.as_slice.ensures
    ∙ ap (λ b. first_from b (part_findings c.args.file (flat_map (λ l. compound_parts (compound_of l)) s.rest))) c.in_compound-best.ensures
    ∙ sym (first-append c.args.file c.args.best (compound_parts s.first) (flat_map (λ l. compound_parts (compound_of l)) s.rest))
    ∙ sym (ap (λ ps. first_from c.args.best (part_findings c.args.file ps)) (parts-Selector s))
