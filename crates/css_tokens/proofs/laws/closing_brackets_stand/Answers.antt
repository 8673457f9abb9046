use Rattle.css_tokens.proofs.ReadsBefore.{before_brace, before_parenthesis, before_square}
use Rattle.css_tokens.proofs.laws.closing_brackets_stand.Goals as goal

pub returns : goal.returns
returns c = record { parenthesis = before_parenthesis; square = before_square; brace = before_brace }
