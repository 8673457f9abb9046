use Rattle.std.proofs.Common.{◌++◌, ap, ◌∙◌}
use Rattle.std.specs.Prelude.{codes}
use Rattle.css_tokens.specs.Values.{value_text}
use Rattle.sheet_types.specs.PassedRules.{keyword_of}
use Rattle.sheet_types.specs.SheetTexts.{behind_keyword}
use Rattle.css_print.specs.Private.Printed.{braced_line}
use Rattle.css_print.proofs.Fronts.{on_err, on_err_map, front_first, front_second}
use Rattle.css_print.proofs.heads.write_passed.Goals as goal

pub returns-in_err-write_prelude-clause-err : goal.returns-in_err-write_prelude-clause-err
returns-in_err-write_prelude-clause-err c =
    let rule = c.args.rule.now in
    let sign = c.extend_from_slice.new.self in
    let named = c.extend_from_slice-2.new.self in
    let new = c.write_prelude.new.out in
    let name = c.in_ok-extend_from_slice-2.ensures.ok ∙ ap (λ text. sign ++ text) (c.as_bytes.ensures.value ∙ c.keyword.ensures) in
    on_err c.from_residual-in_err-write_prelude.result
    (front_second c.args.out.now sign new (codes "@") _ c.in_ok-extend_from_slice.ensures.ok
    (front_second sign named new (keyword_of rule.kind) _ name
    (front_first named new (behind_keyword (value_text rule.prelude)) (braced_line (value_text rule.block)) (rw c.as_slice.ensures at c.in_err-write_prelude.ensures.err))))

pub returns-clause-err : goal.returns-clause-err
returns-clause-err c =
    let rule = c.args.rule.now in
    let sign = c.extend_from_slice.new.self in
    let named = c.extend_from_slice-2.new.self in
    let opened = c.write_prelude.new.out in
    let new = c.write_text_block.new.out in
    let name = c.in_ok-extend_from_slice-2.ensures.ok ∙ ap (λ text. sign ++ text) (c.as_bytes.ensures.value ∙ c.keyword.ensures) in
    on_err_map c.write_text_block.result
    (λ front.
    front_second c.args.out.now sign new (codes "@") _ c.in_ok-extend_from_slice.ensures.ok
    (front_second sign named new (keyword_of rule.kind) _ name
    (front_second named opened new (behind_keyword (value_text rule.prelude)) (braced_line (value_text rule.block)) (rw c.as_slice.ensures at c.in_ok-write_prelude.ensures.ok) front)))
    (rw c.as_slice-2.ensures at c.write_text_block.ensures.err)
