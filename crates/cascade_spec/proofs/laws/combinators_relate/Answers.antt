use Rattle.cascade_spec.proofs.RelationLemmas.{child-holds, descendant-holds, next-holds, later-holds, previous-is, is-previous}
use Rattle.cascade_spec.proofs.laws.combinators_relate.Goals as goal

pub returns : goal.returns
returns c = record {
  child = child-holds;
  descendant = descendant-holds;
  next = next-holds;
  later = later-holds;
  previous = previous-is;
  only_previous = is-previous;
}
