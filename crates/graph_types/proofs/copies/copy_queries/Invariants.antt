use Rattle.std.proofs.Common.{◌≡◌, take}
use Rattle.graph_types.proofs.copies.copy_queries.Given as goal

-- the copies so far are the queries so far
abbrev pub invariant-loop-query : goal.invariant-loop-query
invariant-loop-query l = l.copies ≡ take l.query-index l.queries
