use Rattle.std.proofs.Common.{refl}
use Rattle.graph_types.specs.Unfolding.{unfolded}
use Rattle.graph_types.proofs.examples.graphs_unfold.Goals as goal

pub returns-clause-alone : goal.returns-clause-alone
unfolding unfolded
returns-clause-alone c = λ bytes. refl

pub returns-clause-diamond : goal.returns-clause-diamond
unfolding unfolded
returns-clause-diamond c = λ bytes. refl

pub returns-clause-itself : goal.returns-clause-itself
unfolding unfolded
returns-clause-itself c = λ bytes. refl

pub returns-clause-cycle : goal.returns-clause-cycle
unfolding unfolded
returns-clause-cycle c = λ bytes. refl

pub returns-clause-outermost_first : goal.returns-clause-outermost_first
unfolding unfolded
returns-clause-outermost_first c = λ bytes. refl
