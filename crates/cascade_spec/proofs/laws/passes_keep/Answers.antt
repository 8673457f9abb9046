use Rattle.sheet_types.specs.Contexts.{outside}
use Rattle.sheet_types.specs.Statements.{say_all}
use Rattle.std.proofs.Common.{flat_map}
use Rattle.cascade_spec.proofs.AlikeLemmas.{all-shown}
use Rattle.cascade_spec.proofs.KeptLemmas.{kept-shown}
use Rattle.cascade_spec.proofs.laws.passes_keep.Goals as goal

pub returns : goal.returns
returns c = record {
  shown = λ q lowered a b items each. all-shown q lowered a b items each;
  kept = λ q lowered items each. kept-shown q (say_all items outside) (say_all (flat_map lowered items) outside) (all-shown q lowered outside outside items each);
}
