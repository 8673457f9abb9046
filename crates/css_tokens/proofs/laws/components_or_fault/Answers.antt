use Rattle.css_tokens.proofs.ComponentsOrFault.{answered, components_one, components_unfaulty, faults_one}
use Rattle.css_tokens.proofs.laws.components_or_fault.Goals as goal

pub returns : goal.returns
returns c = record { some = answered; one = components_one; either = components_unfaulty; fault = faults_one }
