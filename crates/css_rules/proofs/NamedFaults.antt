-- The fault of a sheet names the first refusal.
use Rattle.std.proofs.Common.{◌≡◌, ◌∙◌, ℕ, List, sym, subst, Option, Some}
use Rattle.css_rules.specs.declared.reader.RuleFault.{RuleFault}
use Rattle.css_rules.specs.declared.refusal.Cause.{Cause}
use Rattle.css_rules.specs.declared.refusal.Cause.TheVariants.{Unbuilt, LateImport, Syntax}
use Rattle.css_rules.specs.declared.refusal.Refusal.{Refusal}
use Rattle.css_rules.specs.Refusals.{first_refusal}
use Rattle.css_rules.specs.Sheets.{IsFirst, IsLeast, IsNamed}
use Rattle.css_rules.specs.Private.Faults.{fault_at}

named : (refusals : List Refusal) (cause : Cause) (at : ℕ) → first_refusal refusals ≡ Some (record { at = at; cause = cause }) → IsNamed (fault_at cause at) (first_refusal refusals)
named refusals Syntax at is = is
named refusals Unbuilt at is = is
named refusals LateImport at is = is

least : (refusals : List Refusal) (cause : Cause) (at : ℕ) → IsFirst (record { at = at; cause = cause }) refusals → IsLeast (fault_at cause at) refusals
least refusals Syntax at first = first
least refusals Unbuilt at first = first
least refusals LateImport at first = first

pub fault-named : (refusals : List Refusal) (r : Refusal) (fault : RuleFault) → fault ≡ fault_at r.cause r.at → first_refusal refusals ≡ Some r → IsNamed fault (first_refusal refusals)
fault-named refusals r fault made is = subst (λ f. IsNamed f (first_refusal refusals)) (sym made) (named refusals r.cause r.at is)

pub fault-least : (refusals : List Refusal) (r : Refusal) (fault : RuleFault) → fault ≡ fault_at r.cause r.at → IsFirst r refusals → IsLeast fault refusals
fault-least refusals r fault made first = subst (λ f. IsLeast f refusals) (sym made) (least refusals r.cause r.at first)
