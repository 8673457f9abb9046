-- What a fault of a text says, unless memory ran out.
use Rattle.std.specs.Prelude.{ℕ, List}
use Rattle.csslower.specs.Findings.{HasFinding, PassesLimit}
use Rattle.csslower.specs.declared.text_fault.TextFault.{TextFault}
use Rattle.csslower.specs.declared.text_fault.TextFault.TheVariants.{Finding, Limit, Memory}

-- a refusal names what stands against the text, and a limit is one that it passes; want of memory says nothing of it
abbrev pub IsTextFault : List ℕ → TextFault → Type 0
IsTextFault bytes (Finding code offset) = HasFinding bytes code offset
IsTextFault bytes (Limit kind) = PassesLimit bytes kind
IsTextFault bytes Memory = Unit {0}
