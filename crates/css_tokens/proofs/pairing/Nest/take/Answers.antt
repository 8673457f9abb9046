use Rattle.std.proofs.Common.{rules}
use Rattle.css_tokens.proofs.NestLemmas.{one_too_deep}
use Rattle.css_tokens.proofs.pairing.Nest.take.Goals as goal

pub returns-then-len-eq-MOST_OPEN-clause-deep : goal.returns-then-len-eq-MOST_OPEN-clause-deep
returns-then-len-eq-MOST_OPEN-clause-deep c = λ o e. one_too_deep c.args.self.now c.args.token.now o (search rules) (search rules) (search rules)
