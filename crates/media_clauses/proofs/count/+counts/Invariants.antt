use Rattle.std.proofs.Common.{◌≡◌, map, flat_map, length, take}
use Rattle.media_clauses.specs.Clauses.{products, side, sides_of}
use Rattle.media_clauses.specs.Counts.{capped}
use Rattle.media_clauses.proofs.count.+counts.Given as goal

abbrev pub invariant-count_each-loop-condition : goal.invariant-count_each-loop-condition
invariant-count_each-loop-condition l = l.total ≡ capped (length (flat_map (λ c. side l.positive (sides_of c)) (take l.condition-index l.list)))

abbrev pub invariant-count_product-loop-condition : goal.invariant-count_product-loop-condition
invariant-count_product-loop-condition l = l.total ≡ capped (length (products (map (λ c. side l.positive (sides_of c)) (take l.condition-index l.list))))
