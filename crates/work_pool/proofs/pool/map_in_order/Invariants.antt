use Rattle.std.proofs.Common.{◌≡◌, take}
use Rattle.work_pool.specs.Answers.{IsAnswered}
use Rattle.work_pool.proofs.pool.map_in_order.Given as goal

abbrev pub invariant-loop-item : goal.invariant-loop-item
invariant-loop-item g l = record {
  answered : IsAnswered g.F.Fn l.work (take l.item-index l.items) l.answers;
  counted : l.index ≡ l.item-index;
}
