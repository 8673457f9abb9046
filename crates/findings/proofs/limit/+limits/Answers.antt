use Rattle.findings.specs.Limits.{is_long, item_lists}
use Rattle.findings.proofs.Lists.{any-here, any-past}
use Rattle.findings.proofs.limit.+limits.Goals as goal

pub have_long-loop-item-preserved : goal.have_long-loop-item-preserved
have_long-loop-item-preserved t c =
    any-past is_long item_lists c.args.items.now c.loop-item.item-index c.item-item.result c.has_long.result _ c.loop-item-test.true c.item-item.is c.has_long.ensures c.if-has_long.false c.loop-item.invariant

pub have_long-returns-then-has_long : goal.have_long-returns-then-has_long
have_long-returns-then-has_long t c =
    any-here is_long item_lists c.args.items.now c.loop-item.item-index c.item-item.result c.has_long.result _ c.loop-item-test.true c.item-item.is c.has_long.ensures c.if-has_long.true c.loop-item.invariant
