use Rattle.css_tokens.proofs.PlainNameLemmas.{name_text-plain}
use Rattle.css_tokens.proofs.print.plain_name.Goals as goal

pub returns : goal.returns
returns c = name_text-plain
