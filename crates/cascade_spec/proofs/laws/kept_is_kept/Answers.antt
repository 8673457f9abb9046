use Rattle.cascade_spec.proofs.KeptLemmas.{kept-shown, kept-items, kept-twice}
use Rattle.cascade_spec.proofs.laws.kept_is_kept.Goals as goal

pub returns : goal.returns
returns c = record { shown = kept-shown; by_items = kept-items; twice = kept-twice }
