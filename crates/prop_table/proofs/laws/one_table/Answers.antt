use Rattle.std.proofs.Common.{refl}
use Rattle.prop_table.proofs.laws.one_table.Goals as goal

pub returns : goal.returns
returns c = record { properties = λ mode. refl; places = λ mode. refl; split = λ mode. refl }
