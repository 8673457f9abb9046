use Rattle.std.proofs.Common.{◌++◌, take, append-nil, get_or, arith, sym, ap, ◌∙◌}
use Rattle.css_tokens.specs.Private.Contents.{ends_of}
use Rattle.css_tokens.proofs.Said.{plain_end}
use Rattle.css_tokens.proofs.content.plain_content.Goals as goal

pub returns-then-ends : goal.returns-then-ends
returns-then-ends c =
    let text = c.args.text.now in
    let i = c.loop-i.i in
    c.split_at.ensures.front ∙ sym (append-nil (take i text))
    ∙ ap (λ t. take i text ++ t) (sym (plain_end (ends_of c.args.end) text i (omega arith) (ap (λ t. ends_of c.args.end (get_or t i 0)) (sym c.as_bytes-byte-items.ensures.value) ∙ sym c.ends.ensures ∙ c.if-ends.true)))
    ∙ c.loop-i.invariant
