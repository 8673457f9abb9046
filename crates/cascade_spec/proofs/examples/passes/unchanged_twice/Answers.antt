use Rattle.cascade_spec.proofs.examples.passes.unchanged_twice.Goals as goal

pub returns : goal.returns
returns c = λ q. c.in_ok-made.ensures.kept q (tt, tt)
