-- A fault of components is one of the text.
use Rattle.std.proofs.Common.{◌≡◌, ℕ, List, Result, Err, IfErr, inl, subst, sym}
use Rattle.css_tokens.specs.Components as texts
use Rattle.css_tokens.specs.declared.pairing.ComponentFault.{ComponentFault}
use Rattle.css_tokens.specs.declared.pairing.ComponentFault.TheVariants as components
use Rattle.sheet_types.specs.declared.sheet.Sheet.{Sheet}
use Rattle.sheet_reader.specs.Private.Faults.{of_components}
use Rattle.sheet_reader.specs.Texts.{IsFirstFault}
use Rattle.sheet_reader.specs.declared.fault.SheetFault.{SheetFault}

of_text : (text : List ℕ) (f : ComponentFault) → texts.IsFirstFault text f → IsFirstFault text (of_components f)
of_text text (components.Syntax at) h = inl h
of_text text (components.Depth at) h = h
of_text text components.Memory h = h

pub named : (text : List ℕ) (f : ComponentFault) (answer : Result Sheet SheetFault) → answer ≡ Err (of_components f) → texts.IsFirstFault text f → IfErr answer (λ fault. IsFirstFault text fault)
named text f answer is h = subst (λ a. IfErr a (λ fault. IsFirstFault text fault)) (sym is) (of_text text f h)
