-- The faults of components and of rules as faults of the whole text.
use Rattle.css_tokens.specs.declared.pairing.ComponentFault.{ComponentFault}
use Rattle.css_tokens.specs.declared.pairing.ComponentFault.TheVariants as components
use Rattle.css_rules.specs.declared.reader.RuleFault.{RuleFault}
use Rattle.css_rules.specs.declared.reader.RuleFault.TheVariants as rules
use Rattle.sheet_reader.specs.declared.fault.SheetFault.{SheetFault}
use Rattle.sheet_reader.specs.declared.fault.SheetFault.TheVariants.{Syntax, Depth, Unbuilt, LateImport, Memory}

-- a fault of components
abbrev pub of_components : ComponentFault → SheetFault
of_components (components.Syntax at) = Syntax at
of_components (components.Depth at) = Depth at
of_components components.Memory = Memory

-- a fault of rules
abbrev pub of_rules : RuleFault → SheetFault
of_rules (rules.Syntax at) = Syntax at
of_rules (rules.Unbuilt at) = Unbuilt at
of_rules (rules.LateImport at) = LateImport at
of_rules rules.Memory = Memory
