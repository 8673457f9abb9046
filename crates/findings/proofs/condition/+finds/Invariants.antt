use Rattle.std.proofs.Common.{◌≡◌, take}
use Rattle.std.specs.Prelude.{flat_map}
use Rattle.findings.specs.Firsts.{first_from}
use Rattle.findings.specs.SupportsFunctions.{supports_findings}
use Rattle.findings.proofs.condition.+finds.Given as goal

-- the finding that is named of those so far
abbrev pub invariant-in_each-loop-condition : goal.invariant-in_each-loop-condition
invariant-in_each-loop-condition l = l.best ≡ first_from l.initial.best (flat_map (supports_findings l.file) (take l.condition-index l.list))
