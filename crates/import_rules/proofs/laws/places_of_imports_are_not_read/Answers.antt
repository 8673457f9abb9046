use Rattle.import_rules.proofs.ImportPlaces.{same-import}
use Rattle.import_rules.proofs.laws.places_of_imports_are_not_read.Goals as goal

pub returns : goal.returns
returns c = same-import c.one_pairing.ensures
