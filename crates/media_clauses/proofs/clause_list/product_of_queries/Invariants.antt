use Rattle.std.proofs.Common.{◌≡◌, map, take}
use Rattle.media_clauses.specs.Clauses.{products, query_clauses}
use Rattle.media_clauses.proofs.clause_list.product_of_queries.Given as goal

abbrev pub invariant-loop-query : goal.invariant-loop-query
invariant-loop-query l = l.all.items ≡ products (map query_clauses (take l.query-index l.list))
