use Rattle.std.proofs.Common.{List, ℕ, ◌++◌}
use Rattle.std.specs.Prelude.{codes}
use Rattle.sheet_types.specs.declared.sheet.Declaration.{Declaration}
use Rattle.sheet_types.specs.SheetTexts.{declaration_text}
use Rattle.css_print.proofs.Fronts.{on_err, front_first, front_none, front_second, front_item}
use Rattle.css_print.proofs.writer.write_ended.Goals as goal

abbrev text : Declaration → List ℕ
text d = declaration_text d ++ codes ";"

pub returns-in_err-write_declaration-clause-err : goal.returns-in_err-write_declaration-clause-err
returns-in_err-write_declaration-clause-err c =
    let loop = c.loop-declaration in
    let d = c.declaration-item.result in
    let new = c.write_declaration.new.out in
    on_err c.from_residual.result
    (front_item text c.args.run.now loop.declaration-index d c.loop-declaration-test.true c.declaration-item.is c.args.out.now loop.out new loop.invariant
    (front_first loop.out new (declaration_text d) (codes ";") c.in_err-write_declaration.ensures.err))

pub returns-in_err-extend_from_slice-clause-err : goal.returns-in_err-extend_from_slice-clause-err
returns-in_err-extend_from_slice-clause-err c =
    let loop = c.loop-declaration in
    let d = c.declaration-item.result in
    let new = c.extend_from_slice.new.self in
    on_err c.from_residual-in_err-extend_from_slice.result
    (front_item text c.args.run.now loop.declaration-index d c.loop-declaration-test.true c.declaration-item.is c.args.out.now loop.out new loop.invariant
    (front_second loop.out c.write_declaration.new.out new (declaration_text d) (codes ";") c.in_ok-write_declaration.ensures.ok
    (front_none c.write_declaration.new.out new (codes ";") c.in_err-extend_from_slice.ensures.err)))
