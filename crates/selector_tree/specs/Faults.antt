-- What a refusal of a selector list says (Selectors 4, section 18, Grammar).
use Rattle.std.specs.Prelude.{ℕ, ◌≡◌, Result, Err}
use Rattle.selector_tree.specs.declared.fault.SelectorFault.{SelectorFault}
use Rattle.selector_tree.specs.declared.fault.SelectorFault.TheVariants.{Syntax, Memory}

-- A refusal for want of memory may come at any time. Another one names the place at which the reading fails.
abbrev pub FaultIs : {A : Type 0} → SelectorFault → Result A ℕ → Type 0
FaultIs (Syntax at) reading = reading ≡ Err at
FaultIs Memory reading = Unit {0}
