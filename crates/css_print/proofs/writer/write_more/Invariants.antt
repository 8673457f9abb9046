use Rattle.std.proofs.Common.{◌≡◌, ◌++◌, take}
use Rattle.sheet_types.specs.SheetTexts.{more_declarations}
use Rattle.css_print.proofs.writer.write_more.Given as goal

abbrev pub invariant-loop-declaration : goal.invariant-loop-declaration
invariant-loop-declaration l = l.out ≡ l.initial.out ++ more_declarations (take l.declaration-index l.declarations)
