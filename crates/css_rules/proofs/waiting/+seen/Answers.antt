use Rattle.std.proofs.Common.{◌∙◌, sym, ap}
use Rattle.css_tokens.specs.Trees.{closing, pieces_all}
use Rattle.css_rules.specs.Private.Waiting.{seen_at, seen_over}
use Rattle.css_rules.proofs.WaitingLemmas.{over-Block, over-more}
use Rattle.css_rules.proofs.waiting.+seen.Goals as goal

pub over_block-returns : goal.over_block-returns
over_block-returns t c =
    let b = c.args.block.now in
    c.closed.ensures b.opening b.close
    ∙ ap (λ s. seen_at s (closing b.opening b.close))
    (c.in_ok-inside.ensures ∙ ap (λ items. seen_over c.in_ok-opened.opened (pieces_all items)) c.as_slice.ensures ∙ ap (λ s. seen_over s (pieces_all b.items)) c.in_ok-opened.ensures)
    ∙ sym (over-Block c.args.seen b)

pub over_all-loop-component-preserved : goal.over_all-loop-component-preserved
over_all-loop-component-preserved t c =
    let loop = c.loop-component in
    over-more loop.seen c.in_ok-seen.seen c.args.components.now loop.component-index c.component-item.result c.loop-component-test.true c.component-item.is c.in_ok-seen.ensures
    ∙ loop.invariant
