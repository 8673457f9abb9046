use Rattle.std.proofs.Common.{◌≡◌, take}
use Rattle.media_clauses.specs.Clauses.{product}
use Rattle.media_clauses.proofs.clause_list.product.Given as goal

abbrev pub invariant-loop-clause : goal.invariant-loop-clause
invariant-loop-clause l = l.made.items ≡ product (take l.clause-index l.left) l.right
