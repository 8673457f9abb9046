-- What is answered of a sheet that is not clean stands against its text.
use Rattle.std.proofs.Common.{◌≡◌, ℕ, List, [], Option, Some, None, refl, sym, ◌∙◌, ap, inr, subst, option_map}
use Rattle.css_places.specs.declared.finding.Finding.{Finding}
use Rattle.css_places.specs.declared.finding.LimitKind.{LimitKind}
use Rattle.findings.specs.declared.fault.CheckFault.{CheckFault}
use Rattle.findings.specs.declared.fault.CheckFault.TheVariants as faults
use Rattle.findings.specs.Constructs.{sheet_findings}
use Rattle.findings.specs.Firsts.{first_finding}
use Rattle.findings.specs.Limits.{fault_of, first_fault, sheet_limit}
use Rattle.sheet_reader.specs.Texts.{SpellsSheet}
use Rattle.sheet_types.specs.declared.sheet.Sheet.{Sheet}
use Rattle.csslower.specs.Findings.{HasFinding, PassesLimit, code_and_offset}

finding-of : (o : Option Finding) (limit : Option LimitKind) (f : Finding) → fault_of o limit ≡ Some (faults.Finding f) → o ≡ Some f
finding-of (Some g) limit f e = let same : faults.Finding g ≡ faults.Finding f = cc e in ap Some (cc same)
finding-of None (Some kind) f e = absurd (let same : faults.Limit kind ≡ faults.Finding f = cc e in cc same)
finding-of None None f e = absurd (cc e)

limit-none : (o : Option Finding) (limit : Option LimitKind) (kind : LimitKind) → fault_of o limit ≡ Some (faults.Limit kind) → o ≡ None
limit-none (Some g) limit kind e = absurd (let same : faults.Finding g ≡ faults.Limit kind = cc e in cc same)
limit-none None limit kind e = refl

limit-of : (limit : Option LimitKind) (kind : LimitKind) → fault_of None limit ≡ Some (faults.Limit kind) → limit ≡ Some kind
limit-of (Some k) kind e = let same : faults.Limit k ≡ faults.Limit kind = cc e in ap Some (cc same)
limit-of None kind e = absurd (cc e)

pub checked-finding : (text : List ℕ) (sheet : Sheet) (f : Finding) → SpellsSheet text sheet → first_fault sheet ≡ Some (faults.Finding f) → HasFinding text f.code f.place.offset
unfolding HasFinding
checked-finding text sheet f spells e = inr (inr (inr (sheet, spells, ap (option_map code_and_offset) (finding-of (first_finding (sheet_findings 0 sheet)) (sheet_limit sheet) f e))))

pub checked-limit : ((fs : List Finding) → first_finding fs ≡ None → fs ≡ []) → (text : List ℕ) (sheet : Sheet) (kind : LimitKind) → SpellsSheet text sheet → first_fault sheet ≡ Some (faults.Limit kind) → PassesLimit text kind
unfolding PassesLimit
checked-limit named text sheet kind spells e =
    let first : Option Finding = first_finding (sheet_findings 0 sheet) in
    let none : first ≡ None = limit-none first (sheet_limit sheet) kind e in
    (sheet, spells, named (sheet_findings 0 sheet) none, limit-of (sheet_limit sheet) kind (sym (ap (λ (o : Option Finding). fault_of o (sheet_limit sheet)) none) ∙ e))
