use Rattle.std.proofs.Common.{◌≡◌, map, take}
use Rattle.media_clauses.specs.Lowered.{literal_query}
use Rattle.media_clauses.proofs.lower.each_query.Given as goal

abbrev pub invariant-loop-literal : goal.invariant-loop-literal
invariant-loop-literal l = l.list ≡ map literal_query (take l.literal-index l.literals)
