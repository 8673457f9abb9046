use Rattle.prop_table.proofs.Old.{again, all-physical}
use Rattle.prop_table.proofs.laws.physical_properties_are_old.Goals as goal

pub returns : goal.returns
returns c = record { old = all-physical; again = again }
