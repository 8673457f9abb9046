use Rattle.std.proofs.Common.{◌≡◌, map, length, take}
use Rattle.media_clauses.specs.Clauses.{products, query_clauses}
use Rattle.media_clauses.specs.Counts.{capped}
use Rattle.media_clauses.proofs.count.count_queries.Given as goal

abbrev pub invariant-loop-query : goal.invariant-loop-query
invariant-loop-query l = l.total ≡ capped (length (products (map query_clauses (take l.query-index l.list))))
