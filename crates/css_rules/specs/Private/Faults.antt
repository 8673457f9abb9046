-- Which fault names a refusal.
use Rattle.std.specs.Prelude.{ℕ}
use Rattle.css_rules.specs.declared.refusal.Cause.{Cause}
use Rattle.css_rules.specs.declared.refusal.Cause.TheVariants.{Unbuilt, LateImport, Syntax}
use Rattle.css_rules.specs.declared.refusal.Refusal.{Refusal}
use Rattle.css_rules.specs.declared.reader.RuleFault.{RuleFault}
use Rattle.css_rules.specs.declared.reader.RuleFault.TheVariants as faults

-- the fault of this cause at this place
abbrev pub fault_at : Cause → ℕ → RuleFault
fault_at Syntax at = faults.Syntax at
fault_at Unbuilt at = faults.Unbuilt at
fault_at LateImport at = faults.LateImport at

-- the fault that names a refusal
abbrev pub fault_of : Refusal → RuleFault
fault_of refusal = fault_at refusal.cause refusal.at
