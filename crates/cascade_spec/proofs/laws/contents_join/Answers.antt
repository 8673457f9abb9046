use Rattle.cascade_spec.proofs.KeptLemmas.{said-append, showing-append}
use Rattle.cascade_spec.proofs.laws.contents_join.Goals as goal

pub returns : goal.returns
returns c = record { said = said-append; shown = showing-append }
