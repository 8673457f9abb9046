use Rattle.std.proofs.Common.{◌≡◌, ◌++◌, take}
use Rattle.std.specs.Prelude.{flat_map}
use Rattle.sheet_types.specs.SheetTexts.{import_text}
use Rattle.css_print.proofs.imports.write_imports.Given as goal

-- the imports so far are written
abbrev pub invariant-loop-import : goal.invariant-loop-import
invariant-loop-import l = l.out ≡ l.initial.out ++ flat_map import_text (take l.import-index l.imports)
