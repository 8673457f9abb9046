use Rattle.std.proofs.Common.{◌≡◌, take}
use Rattle.std.specs.Prelude.{flat_map}
use Rattle.findings.specs.Constructs.{item_findings}
use Rattle.findings.specs.Firsts.{first_from}
use Rattle.findings.proofs.sheet.+finds.Given as goal

-- the finding that is named of those so far
abbrev pub invariant-in_items-loop-item : goal.invariant-in_items-loop-item
invariant-in_items-loop-item l = l.best ≡ first_from l.initial.best (flat_map (item_findings l.file) (take l.item-index l.items))
