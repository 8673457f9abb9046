use Rattle.css_tokens.proofs.IdentStarts.{hash_idents}
use Rattle.css_tokens.proofs.laws.ids_spell.Goals as goal

pub returns : goal.returns
returns c = hash_idents
