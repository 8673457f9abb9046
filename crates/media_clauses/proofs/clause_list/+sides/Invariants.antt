use Rattle.std.proofs.Common.{◌≡◌, ◌++◌, map, flat_map, take}
use Rattle.media_clauses.specs.Clauses.{products, side, sides_of}
use Rattle.media_clauses.proofs.clause_list.+sides.Given as goal

abbrev pub invariant-product_of-loop-condition : goal.invariant-product_of-loop-condition
invariant-product_of-loop-condition l = l.all.items ≡ products (map (λ c. side l.positive (sides_of c)) (take l.condition-index l.list))

abbrev pub invariant-push_each-loop-condition : goal.invariant-push_each-loop-condition
invariant-push_each-loop-condition l = l.out.items ≡ l.initial.out.items ++ flat_map (λ c. side l.positive (sides_of c)) (take l.condition-index l.list)
