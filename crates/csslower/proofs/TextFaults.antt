-- What stands first against a text that has no sheet is a finding of the text.
use Rattle.std.proofs.Common.{ℕ, List, refl, inl, inr}
use Rattle.css_places.specs.declared.finding.Code.TheVariants as codes
use Rattle.csslower.specs.Findings.{HasFinding}
use Rattle.sheet_reader.specs.Texts.{IsFirstFault}
use Rattle.sheet_reader.specs.declared.fault.SheetFault.TheVariants.{Syntax, Depth, Unbuilt, LateImport}

pub syntax_finding : (text : List ℕ) (at : ℕ) → IsFirstFault text (Syntax at) → HasFinding text codes.Syntax at
unfolding HasFinding
syntax_finding text at (inl (inl stop)) = inl (refl, stop)
syntax_finding text at (inl (inr brackets)) = inr (inl brackets)
syntax_finding text at (inr refusal) = inr (inr (inl refusal))

pub depth_finding : (text : List ℕ) (at : ℕ) → IsFirstFault text (Depth at) → HasFinding text codes.Depth at
unfolding HasFinding
depth_finding text at brackets = inr (inl brackets)

pub unbuilt_finding : (text : List ℕ) (at : ℕ) → IsFirstFault text (Unbuilt at) → HasFinding text codes.Unbuilt at
unfolding HasFinding
unbuilt_finding text at refusal = inr (inr (inl refusal))

pub late_finding : (text : List ℕ) (at : ℕ) → IsFirstFault text (LateImport at) → HasFinding text codes.LateImport at
unfolding HasFinding
late_finding text at refusal = inr (inr (inl refusal))
