use Rattle.css_places.proofs.WalkLemmas.{kept-reached}
use Rattle.css_places.proofs.laws.addresses_lead_somewhere.Goals as goal

pub returns : goal.returns
returns c = kept-reached
