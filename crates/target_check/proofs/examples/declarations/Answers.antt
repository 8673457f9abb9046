use Rattle.std.proofs.Common.{arith, ◌≡◌, [], ◌∷◌, rules}
use Rattle.std.proofs.lemmas.Str.{encode_ascii}
use lib.Utf8.{encode}
use Rattle.target_check.proofs.Computing.{computing}
use Rattle.target_check.proofs.examples.declarations.Goals as goal

-- the escape is an `n`
escaped : encode 110 ≡ 110 ∷ []
escaped = encode_ascii 110 (omega arith)

pub returns-clause-escaped_side : goal.returns-clause-escaped_side
returns-clause-escaped_side c = simp (computing, escaped) (search (rules, computing))
