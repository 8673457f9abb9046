use Rattle.std.proofs.Common.{List, ◌++◌, drop, refl, sym, ap, ◌+◌, ◌∙◌, append_assoc}
use Rattle.std.specs.Prelude.{codes}
use Rattle.selector_types.specs.declared.selector.Link.{Link}
use Rattle.selector_types.specs.declared.selector.Part.{Part}
use Rattle.selector_types.specs.declared.selector.Selector.{Selector}
use Rattle.selector_types.specs.SelectorFold.{simple_of, compound_of, combinator_of}
use Rattle.selector_types.specs.Spelling.{text_of, simple_text, compound_text, selector_text, list_text, type_spelling, tail_spelling, combinator_spelling, lead_spelling, ends_in_dashes}
use Rattle.selector_types.specs.Private.Texts.{parts_text, links_text, more_text, left_text, comma_text}
use Rattle.selector_types.proofs.SpellingTexts.{text-compound, text-selector, text-left}
use Rattle.selector_types.proofs.WritingLemmas.{start, more, last, within, within_last, on_err, on_err_map, on_ok_map, at-item}
use Rattle.selector_types.proofs.write.+writes.Goals as goal

-- Functions.

pub write_call-returns-in_err-write_bytes-clause-err : goal.write_call-returns-in_err-write_bytes-clause-err
write_call-returns-in_err-write_bytes-clause-err t c =
    on_err c.from_residual.result (within c.args.name.now (list_text c.args.list.now ++ codes ")") (start c.args.out.now _) refl c.in_err-write_bytes.ensures.err)

pub write_call-returns-in_err-write_list-clause-err : goal.write_call-returns-in_err-write_list-clause-err
write_call-returns-in_err-write_list-clause-err t c =
    let list = list_text c.args.list.now in
    let named = more c.args.name.now (list ++ codes ")") (start c.args.out.now _) refl c.in_ok-write_bytes.ensures.ok in
    on_err c.from_residual-in_err-write_list.result (within list (codes ")") named refl c.in_err-write_list.ensures.err)

pub write_call-returns-clause-err : goal.write_call-returns-clause-err
write_call-returns-clause-err t c =
    let list = list_text c.args.list.now in
    let named = more c.args.name.now (list ++ codes ")") (start c.args.out.now _) refl c.in_ok-write_bytes.ensures.ok in
    on_err_map c.write_bytes-2.result (within_last (more list (codes ")") named refl c.in_ok-write_list.ensures.ok)) c.write_bytes-2.ensures.err

pub write_scope-returns-in_err-write_bytes-clause-err : goal.write_scope-returns-in_err-write_bytes-clause-err
write_scope-returns-in_err-write_bytes-clause-err t c =
    on_err c.from_residual.result (within c.args.name.now (compound_text c.args.compound.now ++ codes ")") (start c.args.out.now _) refl c.in_err-write_bytes.ensures.err)

pub write_scope-returns-in_err-write_compound-clause-err : goal.write_scope-returns-in_err-write_compound-clause-err
write_scope-returns-in_err-write_compound-clause-err t c =
    let inside = compound_text c.args.compound.now in
    let named = more c.args.name.now (inside ++ codes ")") (start c.args.out.now _) refl c.in_ok-write_bytes.ensures.ok in
    on_err c.from_residual-in_err-write_compound.result (within inside (codes ")") named refl c.in_err-write_compound.ensures.err)

pub write_scope-returns-clause-err : goal.write_scope-returns-clause-err
write_scope-returns-clause-err t c =
    let inside = compound_text c.args.compound.now in
    let named = more c.args.name.now (inside ++ codes ")") (start c.args.out.now _) refl c.in_ok-write_bytes.ensures.ok in
    on_err_map c.write_bytes-2.result (within_last (more inside (codes ")") named refl c.in_ok-write_compound.ensures.ok)) c.write_bytes-2.ensures.err

-- Compounds.

pub write_parts-returns-in_err-write_part-clause-err : goal.write_parts-returns-in_err-write_part-clause-err
write_parts-returns-in_err-write_part-clause-err t c =
    let here = at-item c.args.parts.now c.loop-part.part-index c.part-item.result c.loop-part-test.true c.part-item.is in
    on_err c.from_residual.result (within (simple_text (simple_of c.part-item.result)) (parts_text (drop (c.loop-part.part-index + 1) c.args.parts.now)) c.loop-part.invariant (ap (λ (ps : List Part). parts_text ps) here) c.in_err-write_part.ensures.err)

pub write_compound_text-returns-in_err-write_type-clause-err : goal.write_compound_text-returns-in_err-write_type-clause-err
write_compound_text-returns-in_err-write_type-clause-err t c =
    let k = c.args.compound.now in
    on_err c.from_residual.result (within (text_of (type_spelling k.kind)) (parts_text k.parts ++ text_of (tail_spelling k.tail)) (start c.args.out.now (compound_text k)) (text-compound k) c.in_err-write_type.ensures.err)

pub write_compound_text-returns-in_err-write_parts-clause-err : goal.write_compound_text-returns-in_err-write_parts-clause-err
write_compound_text-returns-in_err-write_parts-clause-err t c =
    let k = c.args.compound.now in
    let typed = more (text_of (type_spelling k.kind)) (parts_text k.parts ++ text_of (tail_spelling k.tail)) (start c.args.out.now (compound_text k)) (text-compound k) c.in_ok-write_type.ensures.ok in
    on_err c.from_residual-in_err-write_parts.result (within (parts_text k.parts) (text_of (tail_spelling k.tail)) typed refl (rw c.as_slice.ensures at c.in_err-write_parts.ensures.err))

pub write_compound_text-returns-clause-ok : goal.write_compound_text-returns-clause-ok
write_compound_text-returns-clause-ok t c =
    let k = c.args.compound.now in
    let typed = more (text_of (type_spelling k.kind)) (parts_text k.parts ++ text_of (tail_spelling k.tail)) (start c.args.out.now (compound_text k)) (text-compound k) c.in_ok-write_type.ensures.ok in
    let parted = more (parts_text k.parts) (text_of (tail_spelling k.tail)) typed refl (rw c.as_slice.ensures at c.in_ok-write_parts.ensures.ok) in
    on_ok_map c.write_tail.result (last parted) c.write_tail.ensures.ok

pub write_compound_text-returns-clause-err : goal.write_compound_text-returns-clause-err
write_compound_text-returns-clause-err t c =
    let k = c.args.compound.now in
    let typed = more (text_of (type_spelling k.kind)) (parts_text k.parts ++ text_of (tail_spelling k.tail)) (start c.args.out.now (compound_text k)) (text-compound k) c.in_ok-write_type.ensures.ok in
    let parted = more (parts_text k.parts) (text_of (tail_spelling k.tail)) typed refl (rw c.as_slice.ensures at c.in_ok-write_parts.ensures.ok) in
    on_err_map c.write_tail.result (within_last parted) c.write_tail.ensures.err

-- Links.

pub write_step-returns-in_err-write_combinator-clause-err : goal.write_step-returns-in_err-write_combinator-clause-err
write_step-returns-in_err-write_combinator-clause-err t c =
    on_err c.from_residual.result (within (text_of (combinator_spelling c.args.dashes c.args.combinator)) (compound_text c.args.compound.now) (start c.args.out.now _) refl c.in_err-write_combinator.ensures.err)

pub write_step-returns-clause-err : goal.write_step-returns-clause-err
write_step-returns-clause-err t c =
    let joint = text_of (combinator_spelling c.args.dashes c.args.combinator) in
    on_err_map c.write_compound.result (within_last (more joint (compound_text c.args.compound.now) (start c.args.out.now _) refl c.in_ok-write_combinator.ensures.ok)) c.write_compound.ensures.err

pub write_links-returns-in_err-dashes-clause-err : goal.write_links-returns-in_err-dashes-clause-err
write_links-returns-in_err-dashes-clause-err t c =
    let l = c.link-item.result in
    let here = at-item c.args.links.now c.loop-link.link-index l c.loop-link-test.true c.link-item.is in
    let compound = compound_text (compound_of l) in
    let rest = links_text (ends_in_dashes compound) (drop (c.loop-link.link-index + 1) c.args.links.now) in
    let joint = text_of (combinator_spelling c.loop-link.dashes (combinator_of l)) in
    let cut = ap (λ (ls : List Link). links_text c.loop-link.dashes ls) here ∙ sym (append_assoc joint compound rest) in
    on_err c.from_residual.result (within (joint ++ compound) rest c.loop-link.invariant cut c.in_err-dashes.ensures.err)

-- Selectors.

pub write_selector-returns-in_err-write_lead-clause-err : goal.write_selector-returns-in_err-write_lead-clause-err
write_selector-returns-in_err-write_lead-clause-err t c =
    let s = c.args.selector.now in
    on_err c.from_residual.result (within (text_of (lead_spelling s.lead)) (compound_text s.first ++ links_text (ends_in_dashes (compound_text s.first)) s.rest) (start c.args.out.now (selector_text s)) (text-selector s) c.in_err-write_lead.ensures.err)

pub write_selector-returns-in_err-dashes-clause-err : goal.write_selector-returns-in_err-dashes-clause-err
write_selector-returns-in_err-dashes-clause-err t c =
    let s = c.args.selector.now in
    let rest = links_text (ends_in_dashes (compound_text s.first)) s.rest in
    let led = more (text_of (lead_spelling s.lead)) (compound_text s.first ++ rest) (start c.args.out.now (selector_text s)) (text-selector s) c.in_ok-write_lead.ensures.ok in
    on_err c.from_residual-in_err-dashes.result (within (compound_text s.first) rest led refl c.in_err-dashes.ensures.err)

pub write_selector-returns-clause-ok : goal.write_selector-returns-clause-ok
write_selector-returns-clause-ok t c =
    let s = c.args.selector.now in
    let rest = links_text (ends_in_dashes (compound_text s.first)) s.rest in
    let led = more (text_of (lead_spelling s.lead)) (compound_text s.first ++ rest) (start c.args.out.now (selector_text s)) (text-selector s) c.in_ok-write_lead.ensures.ok in
    let begun = more (compound_text s.first) rest led refl c.in_ok-dashes.ensures.ok in
    on_ok_map c.write_links.result (last begun) (rw (c.as_slice.ensures, c.in_ok-dashes.ensures.dashes) at c.write_links.ensures.ok)

pub write_selector-returns-clause-err : goal.write_selector-returns-clause-err
write_selector-returns-clause-err t c =
    let s = c.args.selector.now in
    let rest = links_text (ends_in_dashes (compound_text s.first)) s.rest in
    let led = more (text_of (lead_spelling s.lead)) (compound_text s.first ++ rest) (start c.args.out.now (selector_text s)) (text-selector s) c.in_ok-write_lead.ensures.ok in
    let begun = more (compound_text s.first) rest led refl c.in_ok-dashes.ensures.ok in
    on_err_map c.write_links.result (within_last begun) (rw (c.as_slice.ensures, c.in_ok-dashes.ensures.dashes) at c.write_links.ensures.err)

-- Lists.

pub write_list-returns-in_err-write_comma-clause-err : goal.write_list-returns-in_err-write_comma-clause-err
write_list-returns-in_err-write_comma-clause-err t c =
    let s = c.selector-item.result in
    let rest = more_text (drop (c.loop-selector.selector-index + 1) c.args.list.now) in
    let here = at-item c.args.list.now c.loop-selector.selector-index s c.loop-selector-test.true c.selector-item.is in
    let cut = ap (λ (ss : List Selector). left_text c.loop-selector.comma ss) here ∙ text-left c.loop-selector.comma s (drop (c.loop-selector.selector-index + 1) c.args.list.now) in
    on_err c.from_residual.result (within (comma_text c.loop-selector.comma) (selector_text s ++ rest) c.loop-selector.invariant cut c.in_err-write_comma.ensures.err)

pub write_list-returns-in_err-write_selector-clause-err : goal.write_list-returns-in_err-write_selector-clause-err
write_list-returns-in_err-write_selector-clause-err t c =
    let s = c.selector-item.result in
    let rest = more_text (drop (c.loop-selector.selector-index + 1) c.args.list.now) in
    let here = at-item c.args.list.now c.loop-selector.selector-index s c.loop-selector-test.true c.selector-item.is in
    let cut = ap (λ (ss : List Selector). left_text c.loop-selector.comma ss) here ∙ text-left c.loop-selector.comma s (drop (c.loop-selector.selector-index + 1) c.args.list.now) in
    let parted = more (comma_text c.loop-selector.comma) (selector_text s ++ rest) c.loop-selector.invariant cut c.in_ok-write_comma.ensures.ok in
    on_err c.from_residual-in_err-write_selector.result (within (selector_text s) rest parted refl c.in_err-write_selector.ensures.err)

pub write_list-loop-selector-preserved : goal.write_list-loop-selector-preserved
write_list-loop-selector-preserved t c =
    let s = c.selector-item.result in
    let rest = more_text (drop (c.loop-selector.selector-index + 1) c.args.list.now) in
    let here = at-item c.args.list.now c.loop-selector.selector-index s c.loop-selector-test.true c.selector-item.is in
    let cut = ap (λ (ss : List Selector). left_text c.loop-selector.comma ss) here ∙ text-left c.loop-selector.comma s (drop (c.loop-selector.selector-index + 1) c.args.list.now) in
    let parted = more (comma_text c.loop-selector.comma) (selector_text s ++ rest) c.loop-selector.invariant cut c.in_ok-write_comma.ensures.ok in
    more (selector_text s) rest parted refl c.in_ok-write_selector.ensures.ok
