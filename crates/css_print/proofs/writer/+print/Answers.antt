use Rattle.std.proofs.Common.{List, ◌≡◌, [], ◌∷◌, ◌++◌, Bool, map, ap, ◌∙◌, sym}
use Rattle.std.specs.Prelude.{codes, flat_map}
use Rattle.std.proofs.lemmas.List.{append-nil}
use Rattle.selector_types.specs.Spelling.{list_text}
use Rattle.sheet_types.specs.SheetTexts.{block_text, condition_text, items_text, printed_item}
use Rattle.sheet_types.specs.declared.sheet.Item.{Item}
use Rattle.sheet_types.specs.declared.sheet.Group.{Group}
use Rattle.sheet_types.specs.declared.sheet.Style.{Style}
use Rattle.css_print.specs.Private.Printed.{holds_bytes}
use Rattle.css_print.proofs.Fronts.{on_err, front_first, front_second, front_item}
use Rattle.css_print.proofs.Printing.{group-none, group-some, held-block, rule-none, rule-some, text-block, text-group, text-style, text_among}
use Rattle.css_print.proofs.writer.+print.Goals as goal

-- what was asked of the items of a rule is whether its block is printed
asked : (s : Style) (items : List Item) (answer : Bool) → answer ≡ holds_bytes (flat_map text_among items) → items ≡ s.items → holds_bytes (block_text (map printed_item s.items)) ≡ answer
asked s items answer is same = held-block s.items ∙ sym (is ∙ ap (λ all. holds_bytes (flat_map text_among all)) same)

pub write_style-returns-then-is_any_printed-clause-ok : goal.write_style-returns-then-is_any_printed-clause-ok
write_style-returns-then-is_any_printed-clause-ok t c =
    let s : Style = c.args.style.now in
    let some = asked s c.as_slice.result.now c.is_any_printed.result c.is_any_printed.ensures c.as_slice.ensures ∙ c.if-is_any_printed.true in
    rw (text-style s ∙ rule-some s.selectors (block_text (map printed_item s.items)) some) c.write_rule.ensures.ok

pub write_style-returns-then-is_any_printed-clause-err : goal.write_style-returns-then-is_any_printed-clause-err
write_style-returns-then-is_any_printed-clause-err t c =
    let s : Style = c.args.style.now in
    let some = asked s c.as_slice.result.now c.is_any_printed.result c.is_any_printed.ensures c.as_slice.ensures ∙ c.if-is_any_printed.true in
    rw (text-style s ∙ rule-some s.selectors (block_text (map printed_item s.items)) some) c.write_rule.ensures.err

pub write_style-returns-clause-ok : goal.write_style-returns-clause-ok
write_style-returns-clause-ok t c =
    let s : Style = c.args.style.now in
    let old = c.args.out.now in
    let none = asked s c.as_slice.result.now c.is_any_printed.result c.is_any_printed.ensures c.as_slice.ensures ∙ c.if-is_any_printed.false in
    sym (append-nil old) ∙ ap (λ text. old ++ text) (sym (text-style s ∙ rule-none s.selectors (block_text (map printed_item s.items)) none))

pub write_rule-returns-in_err-write_list-clause-err : goal.write_rule-returns-in_err-write_list-clause-err
write_rule-returns-in_err-write_list-clause-err t c =
    let s : Style = c.args.style.now in
    on_err c.from_residual.result (front_first c.args.out.now c.write_list.new.out (list_text s.selectors) _ (rw c.as_slice.ensures at c.in_err-write_list.ensures.err))

pub write_rule-returns-in_err-write_block-clause-err : goal.write_rule-returns-in_err-write_block-clause-err
write_rule-returns-in_err-write_block-clause-err t c =
    let s : Style = c.args.style.now in
    let opened = c.extend_from_slice.new.self in
    let new = c.write_block.new.out in
    let list = rw c.as_slice.ensures at c.in_ok-write_list.ensures.ok in
    let block = rw c.as_slice-2.ensures at c.in_err-write_block.ensures.err in
    on_err c.from_residual-in_err-write_block.result
    (front_second c.args.out.now c.write_list.new.out new (list_text s.selectors) _ list
    (front_second c.write_list.new.out opened new (codes "{") _ c.in_ok-extend_from_slice.ensures.ok
    (front_first opened new (block_text (map printed_item s.items)) (codes "}" ++ 10 ∷ []) block)))

pub write_items-returns-in_err-write_item-clause-err : goal.write_items-returns-in_err-write_item-clause-err
write_items-returns-in_err-write_item-clause-err t c =
    let loop = c.loop-item in
    on_err c.from_residual.result
    (front_item text_among c.args.items.now loop.item-index c.item-item.result c.loop-item-test.true c.item-item.is c.args.out.now loop.out c.write_item.new.out loop.invariant c.in_err-write_item.ensures.err)

pub write_block-returns-in-len2-up-clause-ok : goal.write_block-returns-in-len2-up-clause-ok
write_block-returns-in-len2-up-clause-ok t c = rw (text-block c.args.items.now c.in-len2-up.len_at_least) c.write_items.ensures.ok

pub write_block-returns-in-len2-up-clause-err : goal.write_block-returns-in-len2-up-clause-err
write_block-returns-in-len2-up-clause-err t c = rw (text-block c.args.items.now c.in-len2-up.len_at_least) c.write_items.ensures.err

-- what was asked of the items of a group is whether its block is printed
asked-of : (g : Group) (items : List Item) (answer : Bool) → answer ≡ holds_bytes (flat_map text_among items) → items ≡ g.items → holds_bytes (items_text g.items) ≡ answer
asked-of g items answer is same = sym (is ∙ ap (λ all. holds_bytes (flat_map text_among all)) same)

pub write_group-returns-then-is_any_printed-clause-ok : goal.write_group-returns-then-is_any_printed-clause-ok
write_group-returns-then-is_any_printed-clause-ok t c =
    let g : Group = c.args.group.now in
    let some = asked-of g c.as_slice.result.now c.is_any_printed.result c.is_any_printed.ensures c.as_slice.ensures ∙ c.if-is_any_printed.true in
    rw (text-group g ∙ group-some g.condition (items_text g.items) some) c.write_lines.ensures.ok

pub write_group-returns-then-is_any_printed-clause-err : goal.write_group-returns-then-is_any_printed-clause-err
write_group-returns-then-is_any_printed-clause-err t c =
    let g : Group = c.args.group.now in
    let some = asked-of g c.as_slice.result.now c.is_any_printed.result c.is_any_printed.ensures c.as_slice.ensures ∙ c.if-is_any_printed.true in
    rw (text-group g ∙ group-some g.condition (items_text g.items) some) c.write_lines.ensures.err

pub write_group-returns-clause-ok : goal.write_group-returns-clause-ok
write_group-returns-clause-ok t c =
    let g : Group = c.args.group.now in
    let old = c.args.out.now in
    let none = asked-of g c.as_slice.result.now c.is_any_printed.result c.is_any_printed.ensures c.as_slice.ensures ∙ c.if-is_any_printed.false in
    sym (append-nil old) ∙ ap (λ text. old ++ text) (sym (text-group g ∙ group-none g.condition (items_text g.items) none))

pub write_lines-returns-in_err-write_condition-clause-err : goal.write_lines-returns-in_err-write_condition-clause-err
write_lines-returns-in_err-write_condition-clause-err t c =
    let g : Group = c.args.group.now in
    on_err c.from_residual.result (front_first c.args.out.now c.write_condition.new.out (condition_text g.condition) _ c.in_err-write_condition.ensures.err)

pub write_lines-returns-in_err-write_items-clause-err : goal.write_lines-returns-in_err-write_items-clause-err
write_lines-returns-in_err-write_items-clause-err t c =
    let g : Group = c.args.group.now in
    let opened = c.extend_from_slice.new.self in
    let new = c.write_items.new.out in
    let block = rw c.as_slice.ensures at c.in_err-write_items.ensures.err in
    on_err c.from_residual-in_err-write_items.result
    (front_second c.args.out.now c.write_condition.new.out new (condition_text g.condition) _ c.in_ok-write_condition.ensures.ok
    (front_second c.write_condition.new.out opened new (codes "{\n") _ c.in_ok-extend_from_slice.ensures.ok
    (front_first opened new (items_text g.items) (codes "}" ++ 10 ∷ []) block)))
