use Rattle.std.proofs.Common.{rules}
use Rattle.css_tokens.specs.Characters.{name_start, white}
use Rattle.css_tokens.proofs.PlainFronts.{headed_by}
use Rattle.css_tokens.proofs.front.plain_front.Goals as goal

pub name-requires : goal.name-requires
name-requires c = headed_by name_start c.args.text.now c.classify.result c.in-len1-up.len_at_least c.classify.ensures (search rules)

pub white-requires : goal.white-requires
white-requires c = headed_by white c.args.text.now c.classify.result c.in-len1-up.len_at_least c.classify.ensures (search rules)
