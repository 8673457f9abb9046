use Rattle.css_rules.proofs.FirstRefusals.{first-stands, first-least}
use Rattle.css_rules.proofs.RefusalLemmas.{first_refusal-none}
use Rattle.css_rules.proofs.first_law.the_first_refusal_is_named.Goals as goal

pub returns : goal.returns
returns c = record { stands = first-stands; first = first-least; some = first_refusal-none }
