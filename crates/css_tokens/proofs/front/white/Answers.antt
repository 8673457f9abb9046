use Rattle.css_tokens.proofs.PlainFronts.{white_first}
use Rattle.css_tokens.proofs.front.white.Goals as goal

pub returns-clause-value : goal.returns-clause-value
returns-clause-value c = white_first c.args.text.now c.run_length.result c.requires c.run_length.ensures.value
