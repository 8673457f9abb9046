use Rattle.std.proofs.Common.{take}
use Rattle.css_rules.specs.SheetBuilding.{HasTaken}
use Rattle.css_rules.proofs.sheet.read_sheet.Given as goal

-- the components so far were taken
abbrev pub invariant-loop-component : goal.invariant-loop-component
invariant-loop-component l = HasTaken l.builder (take l.component-index l.text)
