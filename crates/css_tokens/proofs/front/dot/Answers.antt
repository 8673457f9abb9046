use Rattle.std.proofs.Common.{sym, ◌∙◌}
use Rattle.css_tokens.proofs.PlainFronts.{dot_first}
use Rattle.css_tokens.proofs.front.dot.Goals as goal

pub returns-clause-value : goal.returns-clause-value
returns-clause-value c = dot_first c.args.text.now c.split_at.result.1.now c.requires c.split_at.ensures.back (sym c.is_headed.ensures ∙ c.if-is_headed.false)
