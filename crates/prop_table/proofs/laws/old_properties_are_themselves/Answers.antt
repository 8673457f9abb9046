use Rattle.prop_table.proofs.Itself.{old-itself}
use Rattle.prop_table.proofs.laws.old_properties_are_themselves.Goals as goal

pub returns : goal.returns
returns c = old-itself
