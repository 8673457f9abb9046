use Rattle.css_tokens.proofs.Rebuilt.{same_components}
use Rattle.css_tokens.proofs.pairing.one_pairing.Goals as goal

pub returns : goal.returns
returns c = same_components
