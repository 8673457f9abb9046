use Rattle.css_rules.proofs.FirstFaults.{first_fault-least, first_fault-prelude}
use Rattle.css_rules.proofs.first_law.the_first_fault_is_named.Goals as goal

pub returns : goal.returns
returns c = record { least = first_fault-least; prelude = first_fault-prelude }
