use Rattle.std.proofs.Common.{arith}
use Rattle.css_tokens.proofs.component_reader.take_block.Goals as goal

pub loop-alloc-preserved : goal.loop-alloc-preserved
loop-alloc-preserved c =
    let before = c.loop-alloc.invariant in
    let step = c.in_ok-take_next.ensures in
    let forward = step.forward in
    let end = step.end in
    record {
      holds = step.holds;
      read = λ start text begins. step.read start text (before.read start text begins);
      forward = omega arith;
      end = omega arith;
    }
