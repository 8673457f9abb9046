use Rattle.std.proofs.Common.{arith, Ok}
use Rattle.std.specs.Fn.{FnReturnsAt}
use Rattle.work_pool.proofs.Zips.{zip-step, answered-at}
use Rattle.work_pool.proofs.pool.map_in_order.Goals as goal

pub loop-item-preserved : goal.loop-item-preserved
loop-item-preserved g c = record {
  answered =
      let here : FnReturnsAt g.F.Fn c.args.work.now c.item-item.result (Ok c.in_ok-work.field-0) = answered-at g.F.Fn c.args.work.now _ _ c.work.ensures c.in_ok-work.was in
      rw c.in_ok-push.ensures.ok (zip-step _ c.args.items.now c.loop-item.answers c.loop-item.item-index c.item-item.result c.in_ok-work.field-0 c.loop-item-test.true c.item-item.is c.loop-item.invariant.answered here);
  counted = omega arith;
}
