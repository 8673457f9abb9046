use Rattle.std.proofs.Common.{◌≡◌, ◌++◌, take}
use Rattle.sheet_types.specs.SheetTexts.{ended_declarations}
use Rattle.css_print.proofs.writer.write_ended.Given as goal

abbrev pub invariant-loop-declaration : goal.invariant-loop-declaration
invariant-loop-declaration l = l.out ≡ l.initial.out ++ ended_declarations (take l.declaration-index l.run)
