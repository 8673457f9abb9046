use Rattle.std.proofs.Common.{◌≡◌, drop}
use Rattle.std.specs.List.{list_any}
use Rattle.std.specs.Prelude.{flat_map}
use Rattle.findings.specs.MediaFeatures.{features_in, is_young, under_not}
use Rattle.findings.proofs.media.+young.Given as goal

-- none was met so far
abbrev pub invariant-is_young_among-loop-condition : goal.invariant-is_young_among-loop-condition
invariant-is_young_among-loop-condition l = list_any is_young (flat_map (λ c. under_not l.negated (features_in c)) (drop l.condition-index l.list)) ≡ list_any is_young (flat_map (λ c. under_not l.negated (features_in c)) l.list)
