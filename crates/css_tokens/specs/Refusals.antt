-- How a refusal of components is named (CSS Syntax 3, section 5.4.8).
use Rattle.std.specs.Prelude.{◌≡◌, List, Result, Ok, Err}
use Rattle.css_tokens.specs.declared.component.Component.{Component}
use Rattle.css_tokens.specs.declared.pairing.ComponentFault.{ComponentFault}
use Rattle.css_tokens.specs.declared.pairing.ComponentFault.TheVariants.{Syntax, Depth, Memory}

-- the answer is this fault, or memory ran out
abbrev pub IsRefusal : Result (List Component) ComponentFault → ComponentFault → Type 0
IsRefusal (Ok cs) fault = ⊥
IsRefusal (Err (Syntax o)) fault = Syntax o ≡ fault
IsRefusal (Err (Depth o)) fault = Depth o ≡ fault
IsRefusal (Err Memory) fault = Unit {0}
