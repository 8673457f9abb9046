use Rattle.media_spelling.specs.Private.Texts.{alone_text, left_text, more_text, nested_text, wanted_text}
use Rattle.media_spelling.proofs.SpellingTexts.{text-left}
use Rattle.media_spelling.proofs.WritingLemmas.{start, more, within, within_last, on_err, on_err_map, at-item}
use Rattle.std.proofs.Common.{drop, ap, ◌∙◌, ◌+◌, List, refl, ◌++◌}
use Rattle.std.specs.Prelude.{codes}
use Rattle.media_spelling.specs.declared.supports.Supports.{Supports}
use Rattle.media_spelling.proofs.write.+supports.Goals as goal

pub write_negative-returns-in_err-write_bytes-clause-err : goal.write_negative-returns-in_err-write_bytes-clause-err
write_negative-returns-in_err-write_bytes-clause-err t c = on_err c.from_residual.result (within (codes "not ") (nested_text c.args.condition.now) (start c.args.out.now (_)) refl c.in_err-write_bytes.ensures.err)

pub write_negative-returns-clause-err : goal.write_negative-returns-clause-err
write_negative-returns-clause-err t c = on_err_map c.write_nested.result (within_last (more (codes "not ") (nested_text c.args.condition.now) (start c.args.out.now (_)) refl c.in_ok-write_bytes.ensures.ok)) c.write_nested.ensures.err

pub write_enclosed-returns-in_err-write_bytes-clause-err : goal.write_enclosed-returns-in_err-write_bytes-clause-err
write_enclosed-returns-in_err-write_bytes-clause-err t c = on_err c.from_residual.result (within (codes "(") (alone_text c.args.condition.now ++ codes ")") (start c.args.out.now (_)) refl c.in_err-write_bytes.ensures.err)

pub write_enclosed-returns-clause-err : goal.write_enclosed-returns-clause-err
write_enclosed-returns-clause-err t c = on_err_map c.write_ended.result (within_last (more (codes "(") (alone_text c.args.condition.now ++ codes ")") (start c.args.out.now (_)) refl c.in_ok-write_bytes.ensures.ok)) c.write_ended.ensures.err

pub write_ended-returns-in_err-write_supports-clause-err : goal.write_ended-returns-in_err-write_supports-clause-err
write_ended-returns-in_err-write_supports-clause-err t c = on_err c.from_residual.result (within (alone_text c.args.condition.now) (codes ")") (start c.args.out.now (_)) refl c.in_err-write_supports.ensures.err)

pub write_ended-returns-clause-err : goal.write_ended-returns-clause-err
write_ended-returns-clause-err t c = on_err_map c.write_bytes.result (within_last (more (alone_text c.args.condition.now) (codes ")") (start c.args.out.now (_)) refl c.in_ok-write_supports.ensures.ok)) c.write_bytes.ensures.err

pub write_supports_row-returns-in_err-write_wanted-clause-err : goal.write_supports_row-returns-in_err-write_wanted-clause-err
write_supports_row-returns-in_err-write_wanted-clause-err t c =
    let x = c.condition-item.result in
    let rest = drop (c.loop-condition.condition-index + 1) c.args.row.now in
    let here = at-item c.args.row.now c.loop-condition.condition-index x c.loop-condition-test.true c.condition-item.is in
    let cut = ap (λ (xs : List Supports). left_text c.loop-condition.wanted (c.args.between.now) nested_text xs) here ∙ text-left c.loop-condition.wanted (c.args.between.now) nested_text x rest in
    on_err c.from_residual.result (within (wanted_text c.loop-condition.wanted (c.args.between.now)) (nested_text x ++ more_text (c.args.between.now) nested_text rest) c.loop-condition.invariant cut c.in_err-write_wanted.ensures.err)

pub write_supports_row-returns-in_err-write_nested-clause-err : goal.write_supports_row-returns-in_err-write_nested-clause-err
write_supports_row-returns-in_err-write_nested-clause-err t c =
    let x = c.condition-item.result in
    let rest = drop (c.loop-condition.condition-index + 1) c.args.row.now in
    let here = at-item c.args.row.now c.loop-condition.condition-index x c.loop-condition-test.true c.condition-item.is in
    let cut = ap (λ (xs : List Supports). left_text c.loop-condition.wanted (c.args.between.now) nested_text xs) here ∙ text-left c.loop-condition.wanted (c.args.between.now) nested_text x rest in
    let parted = more (wanted_text c.loop-condition.wanted (c.args.between.now)) (nested_text x ++ more_text (c.args.between.now) nested_text rest) c.loop-condition.invariant cut c.in_ok-write_wanted.ensures.ok in
    on_err c.from_residual-in_err-write_nested.result (within (nested_text x) (more_text (c.args.between.now) nested_text rest) parted refl c.in_err-write_nested.ensures.err)

pub write_supports_row-loop-condition-preserved : goal.write_supports_row-loop-condition-preserved
write_supports_row-loop-condition-preserved t c =
    let x = c.condition-item.result in
    let rest = drop (c.loop-condition.condition-index + 1) c.args.row.now in
    let here = at-item c.args.row.now c.loop-condition.condition-index x c.loop-condition-test.true c.condition-item.is in
    let cut = ap (λ (xs : List Supports). left_text c.loop-condition.wanted (c.args.between.now) nested_text xs) here ∙ text-left c.loop-condition.wanted (c.args.between.now) nested_text x rest in
    let parted = more (wanted_text c.loop-condition.wanted (c.args.between.now)) (nested_text x ++ more_text (c.args.between.now) nested_text rest) c.loop-condition.invariant cut c.in_ok-write_wanted.ensures.ok in
    more (nested_text x) (more_text (c.args.between.now) nested_text rest) parted refl c.in_ok-write_nested.ensures.ok
