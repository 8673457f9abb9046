-- What it is for a text to be one that older browsers read.
use Rattle.std.specs.Prelude.{ℕ, List, IsTrue}
use Rattle.cascade_spec.specs.Readings.{HasSheet}
use Rattle.sheet_types.specs.declared.sheet.Sheet.{Sheet}
use Rattle.target_check.specs.Targets.{is_target}

-- The text reads as a sheet, and each sheet that it reads as is a target sheet: they differ in places alone.
pub record IsTargetText (text : List ℕ) : Type 0 where
  pub readable : (sheet : Sheet) × HasSheet text sheet
  pub target : (sheet : Sheet) → HasSheet text sheet → IsTrue (is_target sheet)
