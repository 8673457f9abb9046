use Rattle.std.specs.Prelude.{codes}
use Rattle.sheet_types.specs.SheetTexts.{importance_text, printed_value}
use Rattle.css_tokens.specs.NameText.{name_text}
use Rattle.css_print.proofs.Fronts.{on_err, on_err_map, front_first, front_second}
use Rattle.css_print.proofs.writer.write_declaration.Goals as goal

pub returns-in_err-write_name-clause-err : goal.returns-in_err-write_name-clause-err
returns-in_err-write_name-clause-err c =
    let d = c.args.declaration.now in
    on_err c.from_residual.result (front_first c.args.out.now c.write_name.new.out (name_text d.name) _ c.in_err-write_name.ensures.err)

pub returns-in_err-write_value-clause-err : goal.returns-in_err-write_value-clause-err
returns-in_err-write_value-clause-err c =
    let d = c.args.declaration.now in
    let new = c.write_value.new.out in
    let value = rw c.as_slice.ensures at c.in_err-write_value.ensures.err in
    on_err c.from_residual-in_err-write_value.result
    (front_second c.args.out.now c.write_name.new.out new (name_text d.name) _ c.in_ok-write_name.ensures.ok
    (front_second c.write_name.new.out c.extend_from_slice.new.self new (codes ":") _ c.in_ok-extend_from_slice.ensures.ok
    (front_first c.extend_from_slice.new.self new (printed_value d.value) (importance_text d.important) value)))

pub returns-clause-err : goal.returns-clause-err
returns-clause-err c =
    let d = c.args.declaration.now in
    let new = c.write_importance.new.out in
    let value = rw c.as_slice.ensures at c.in_ok-write_value.ensures.ok in
    on_err_map c.write_importance.result
    (λ front.
    front_second c.args.out.now c.write_name.new.out new (name_text d.name) _ c.in_ok-write_name.ensures.ok
    (front_second c.write_name.new.out c.extend_from_slice.new.self new (codes ":") _ c.in_ok-extend_from_slice.ensures.ok
    (front_second c.extend_from_slice.new.self c.write_value.new.out new (printed_value d.value) (importance_text d.important) value front)))
    c.write_importance.ensures.err
