use Rattle.std.proofs.Common.{◌≡◌, map, take}
use Rattle.css_places.specs.declared.finding.Code.TheVariants.{Unbuilt}
use Rattle.findings.specs.Firsts.{first_finding}
use Rattle.findings.specs.Found.{found_at}
use Rattle.findings.proofs.sheet.in_imports.Given as goal

-- the finding that is named of those so far
abbrev pub invariant-loop-import : goal.invariant-loop-import
invariant-loop-import l = l.best ≡ first_finding (map (λ i. found_at l.file i.at Unbuilt) (take l.import-index l.imports))
