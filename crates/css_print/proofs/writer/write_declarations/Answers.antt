use Rattle.std.proofs.Common.{◌≡◌, ◌++◌, drop, sym, ap, subst}
use Rattle.sheet_types.specs.SheetTexts.{declaration_text, declarations_text, more_declarations}
use Rattle.css_tokens.specs.Appends.{AppendsFront}
use Rattle.css_print.proofs.Fronts.{on_err, on_err_map, front_first, front_second, at_item, rest_whole}
use Rattle.css_print.proofs.writer.write_declarations.Goals as goal

pub returns-in_err-write_declaration-in-len1-up-clause-err : goal.returns-in_err-write_declaration-in-len1-up-clause-err
returns-in_err-write_declaration-in-len1-up-clause-err c =
    let ds = c.args.declarations.now in
    let d = c.first-item.result in
    let new = c.write_declaration.new.out in
    let whole : declarations_text ds ≡ declaration_text d ++ more_declarations (drop 1 ds) = ap declarations_text (at_item ds 0 d c.in-len1-up.len_at_least c.first-item.is) in
    on_err c.from_residual.result (subst (AppendsFront c.args.out.now new) (sym whole) (front_first c.args.out.now new (declaration_text d) _ c.in_err-write_declaration-in-len1-up.ensures.err))

pub returns-in_ok-write_declaration-in-len1-up-clause-err : goal.returns-in_ok-write_declaration-in-len1-up-clause-err
returns-in_ok-write_declaration-in-len1-up-clause-err c =
    let ds = c.args.declarations.now in
    let d = c.first-item.result in
    let new = c.write_more.new.out in
    let whole : declarations_text ds ≡ declaration_text d ++ more_declarations (drop 1 ds) = ap declarations_text (at_item ds 0 d c.in-len1-up.len_at_least c.first-item.is) in
    on_err_map c.write_more.result
    (λ front. subst (AppendsFront c.args.out.now new) (sym whole) (front_second c.args.out.now c.write_declaration.new.out new (declaration_text d) (more_declarations (drop 1 ds)) c.in_ok-write_declaration-in-len1-up.ensures.ok front))
    (rw (rest_whole ds) at c.write_more.ensures.err)
