use Rattle.std.proofs.Common.{length, ap}
use Rattle.css_tokens.specs.Piece.{Piece}
use Rattle.css_tokens.proofs.ComponentReadingLemmas.{read_on}
use Rattle.css_tokens.proofs.cursor.Cursor.next.Goals as goal

pub returns-clause-read : goal.returns-clause-read
returns-clause-read c = λ before. read_on before c.args.self.now.rest.now c.split_at.result.1.now c.in_ok-token.token c.args.self.now.at _ c.in_ok-token.ensures.token c.in_ok-token.ensures.placed (ap (λ (p : Piece). length p.text) c.token.view_is) c.split_at.ensures.back
