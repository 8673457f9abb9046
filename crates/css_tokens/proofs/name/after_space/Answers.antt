use Rattle.std.proofs.Common.{◌≡◌, ◌<◌, length, get_or, rules, true}
use Rattle.std.specs.Str.{IsUtf8}
use Rattle.std.proofs.lemmas.Str.{IsCharBoundary-after_ascii}
use Rattle.css_tokens.specs.Contents.{is_space}
use Rattle.css_tokens.proofs.NameLemmas.{is_space-ascii}
use Rattle.css_tokens.proofs.name.after_space.Goals as goal

pub split_at-requires : goal.split_at-requires
split_at-requires c =
    let text = c.loop-first.rest.now in
    let utf8 : IsUtf8 text = search rules in
    let some : 0 < length text = search rules in
    let space : is_space (get_or text 0 0) ≡ true = search rules in
    IsCharBoundary-after_ascii text 0 utf8 some (is_space-ascii (get_or text 0 0) space)
