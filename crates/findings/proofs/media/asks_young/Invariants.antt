use Rattle.std.proofs.Common.{◌≡◌, drop}
use Rattle.std.specs.List.{list_any}
use Rattle.std.specs.Prelude.{flat_map}
use Rattle.findings.specs.MediaFeatures.{is_young, query_negated}
use Rattle.findings.proofs.media.asks_young.Given as goal

-- none was met so far
abbrev pub invariant-loop-query : goal.invariant-loop-query
invariant-loop-query l = list_any is_young (flat_map query_negated (drop l.query-index l.list)) ≡ list_any is_young (flat_map query_negated l.list)
