use Rattle.std.proofs.Common.{◌≡◌, map, take}
use Rattle.media_clauses.specs.Lowered.{plain_query}
use Rattle.media_clauses.proofs.plain.plain_queries.Given as goal

abbrev pub invariant-loop-query : goal.invariant-loop-query
invariant-loop-query l = l.made ≡ map plain_query (take l.query-index l.list)
