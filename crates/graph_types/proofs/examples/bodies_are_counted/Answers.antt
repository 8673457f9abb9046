use Rattle.std.proofs.Common.{arith, refl}
use Rattle.graph_types.specs.Unfolding.{unfolded}
use Rattle.graph_types.proofs.examples.bodies_are_counted.Goals as goal

pub returns-clause-bodies : goal.returns-clause-bodies
unfolding unfolded
returns-clause-bodies c = λ bytes. refl

pub returns-clause-length : goal.returns-clause-length
unfolding unfolded
returns-clause-length c = λ few more. omega arith
