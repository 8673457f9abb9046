use Rattle.std.proofs.Common.{sym, ◌∙◌}
use Rattle.css_tokens.proofs.PlainFronts.{name_first}
use Rattle.css_tokens.proofs.front.name.Goals as goal

pub returns-clause-value : goal.returns-clause-value
returns-clause-value c = name_first c.args.text.now c.split_at.result.1.now c.run_length-length.result c.requires c.run_length-length.ensures.value c.split_at.ensures.back (sym c.is_headed.ensures ∙ c.if-is_headed.false)
