use Rattle.css_tokens.proofs.OneBracketFault.{fault_one, fault_none}
use Rattle.css_tokens.proofs.laws.one_bracket_fault.Goals as goal

pub returns : goal.returns
returns c = record { one = fault_one; either = fault_none }
