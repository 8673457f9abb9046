use Rattle.std.proofs.Common.{◌<◌, length, get_or, rules}
use Rattle.std.proofs.lemmas.Str.{IsCharBoundary-after_ascii}
use Rattle.css_tokens.proofs.name.after_first.Goals as goal

pub split_at-requires : goal.split_at-requires
split_at-requires c =
    let text = c.args.text.now in
    let within : c.loop-i.i < length text = search rules in
    let ascii : get_or text c.loop-i.i 0 < 128 = search rules in
    IsCharBoundary-after_ascii text c.loop-i.i c.utf8.text within ascii
