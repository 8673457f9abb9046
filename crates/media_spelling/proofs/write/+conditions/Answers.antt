use Rattle.media_spelling.specs.Private.Texts.{condition_text, inside_text, left_text, more_text, wanted_text}
use Rattle.media_spelling.proofs.SpellingTexts.{text-left}
use Rattle.media_spelling.proofs.WritingLemmas.{start, more, within, within_last, on_err, on_err_map, at-item}
use Rattle.std.proofs.Common.{drop, ap, ◌∙◌, ◌+◌, List, refl, ◌++◌}
use Rattle.std.specs.Prelude.{codes}
use Rattle.media_spelling.specs.declared.condition.Condition.{Condition}
use Rattle.media_spelling.proofs.write.+conditions.Goals as goal

pub write_negation-returns-in_err-write_bytes-clause-err : goal.write_negation-returns-in_err-write_bytes-clause-err
write_negation-returns-in_err-write_bytes-clause-err t c = on_err c.from_residual.result (within (codes "not ") (inside_text c.args.condition.now) (start c.args.out.now (_)) refl c.in_err-write_bytes.ensures.err)

pub write_negation-returns-clause-err : goal.write_negation-returns-clause-err
write_negation-returns-clause-err t c = on_err_map c.write_inside.result (within_last (more (codes "not ") (inside_text c.args.condition.now) (start c.args.out.now (_)) refl c.in_ok-write_bytes.ensures.ok)) c.write_inside.ensures.err

pub write_parens-returns-in_err-write_bytes-clause-err : goal.write_parens-returns-in_err-write_bytes-clause-err
write_parens-returns-in_err-write_bytes-clause-err t c = on_err c.from_residual.result (within (codes "(") (condition_text c.args.condition.now ++ codes ")") (start c.args.out.now (_)) refl c.in_err-write_bytes.ensures.err)

pub write_parens-returns-clause-err : goal.write_parens-returns-clause-err
write_parens-returns-clause-err t c = on_err_map c.write_closed.result (within_last (more (codes "(") (condition_text c.args.condition.now ++ codes ")") (start c.args.out.now (_)) refl c.in_ok-write_bytes.ensures.ok)) c.write_closed.ensures.err

pub write_closed-returns-in_err-write_condition-clause-err : goal.write_closed-returns-in_err-write_condition-clause-err
write_closed-returns-in_err-write_condition-clause-err t c = on_err c.from_residual.result (within (condition_text c.args.condition.now) (codes ")") (start c.args.out.now (_)) refl c.in_err-write_condition.ensures.err)

pub write_closed-returns-clause-err : goal.write_closed-returns-clause-err
write_closed-returns-clause-err t c = on_err_map c.write_bytes.result (within_last (more (condition_text c.args.condition.now) (codes ")") (start c.args.out.now (_)) refl c.in_ok-write_condition.ensures.ok)) c.write_bytes.ensures.err

pub write_row-returns-in_err-write_wanted-clause-err : goal.write_row-returns-in_err-write_wanted-clause-err
write_row-returns-in_err-write_wanted-clause-err t c =
    let x = c.condition-item.result in
    let rest = drop (c.loop-condition.condition-index + 1) c.args.row.now in
    let here = at-item c.args.row.now c.loop-condition.condition-index x c.loop-condition-test.true c.condition-item.is in
    let cut = ap (λ (xs : List Condition). left_text c.loop-condition.wanted (c.args.between.now) inside_text xs) here ∙ text-left c.loop-condition.wanted (c.args.between.now) inside_text x rest in
    on_err c.from_residual.result (within (wanted_text c.loop-condition.wanted (c.args.between.now)) (inside_text x ++ more_text (c.args.between.now) inside_text rest) c.loop-condition.invariant cut c.in_err-write_wanted.ensures.err)

pub write_row-returns-in_err-write_inside-clause-err : goal.write_row-returns-in_err-write_inside-clause-err
write_row-returns-in_err-write_inside-clause-err t c =
    let x = c.condition-item.result in
    let rest = drop (c.loop-condition.condition-index + 1) c.args.row.now in
    let here = at-item c.args.row.now c.loop-condition.condition-index x c.loop-condition-test.true c.condition-item.is in
    let cut = ap (λ (xs : List Condition). left_text c.loop-condition.wanted (c.args.between.now) inside_text xs) here ∙ text-left c.loop-condition.wanted (c.args.between.now) inside_text x rest in
    let parted = more (wanted_text c.loop-condition.wanted (c.args.between.now)) (inside_text x ++ more_text (c.args.between.now) inside_text rest) c.loop-condition.invariant cut c.in_ok-write_wanted.ensures.ok in
    on_err c.from_residual-in_err-write_inside.result (within (inside_text x) (more_text (c.args.between.now) inside_text rest) parted refl c.in_err-write_inside.ensures.err)

pub write_row-loop-condition-preserved : goal.write_row-loop-condition-preserved
write_row-loop-condition-preserved t c =
    let x = c.condition-item.result in
    let rest = drop (c.loop-condition.condition-index + 1) c.args.row.now in
    let here = at-item c.args.row.now c.loop-condition.condition-index x c.loop-condition-test.true c.condition-item.is in
    let cut = ap (λ (xs : List Condition). left_text c.loop-condition.wanted (c.args.between.now) inside_text xs) here ∙ text-left c.loop-condition.wanted (c.args.between.now) inside_text x rest in
    let parted = more (wanted_text c.loop-condition.wanted (c.args.between.now)) (inside_text x ++ more_text (c.args.between.now) inside_text rest) c.loop-condition.invariant cut c.in_ok-write_wanted.ensures.ok in
    more (inside_text x) (more_text (c.args.between.now) inside_text rest) parted refl c.in_ok-write_inside.ensures.ok
