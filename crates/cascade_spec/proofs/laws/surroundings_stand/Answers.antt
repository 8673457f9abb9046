use Rattle.std.proofs.Common.{refl}
use Rattle.cascade_spec.proofs.AlikeLemmas.{at-condition, at-list}
use Rattle.cascade_spec.proofs.laws.surroundings_stand.Goals as goal

pub returns : goal.returns
returns c = record {
  none = λ world. refl;
  one_more = at-list;
  one_more_condition = at-condition;
}
