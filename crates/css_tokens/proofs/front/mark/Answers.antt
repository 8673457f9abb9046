use Rattle.css_tokens.proofs.PlainFronts.{mark_first}
use Rattle.css_tokens.proofs.front.mark.Goals as goal

pub returns-in_ok-kind-in-len1-up-clause-value : goal.returns-in_ok-kind-in-len1-up-clause-value
returns-in_ok-kind-in-len1-up-clause-value c =
    mark_first c.args.text.now c.in_ok-kind-in-len1-up.kind c.classify.result c.in-len1-up.len_at_least c.classify.ensures
    c.in_ok-kind-in-len1-up.ensures.value c.in_ok-kind-in-len1-up.ensures.other
