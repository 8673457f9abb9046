-- What is said of files that are alike holds of files of which the entry's has the same text.
use Rattle.std.proofs.Common.{◌≡◌, ℕ, List, [], Option, Some, None, IfSome, subst, sym, ap, ◌∙◌}
use Rattle.std.specs.Option.{unwrap_or}
use Rattle.css_places.specs.declared.finding.Finding.{Finding}
use Rattle.cascade_spec.specs.Readings.{KeepsWinners}
use Rattle.css_places.specs.declared.finding.LimitKind.{LimitKind}
use Rattle.css_outside.specs.Names.{Names, Told, bytes_under}
use Rattle.csslower.specs.Answers.{IsLong, IsPassed, IsFirst, IsFine, LimitFits, RefusalFits, WritingFits, IsFirstOfSources}
use Rattle.csslower.specs.Leaving.{WinnersFit}
use Rattle.csslower.specs.Private.Loading.{alike}
use Rattle.csslower.specs.Saying.{Said, SaysRefusal}
use Rattle.csslower.specs.declared.status.Status.{Status}
use Rattle.csslower.specs.declared.status.Status.TheVariants.{Done, Refused, Usage, ReadFault, WriteFault, Memory, Limit}
use Rattle.csslower.proofs.Parts.{told_weaker}

-- a fact of the told files from their entry's text
pub of_told : (told : Option Names) (path source bytes : List ℕ) (P : Names → Type 0) → bytes ≡ source → IfSome told (λ files. files path ≡ Some source) → ((files : Names) → files path ≡ Some bytes → P files) → IfSome told P
of_told None path source bytes P same read holds = tt
of_told (Some files) path source bytes P same read holds = holds files (read ∙ ap (λ (t : List ℕ). Some t) (sym same))

module _ (path source : List ℕ) (files : Names) (is : files path ≡ Some source) where
  passed : (kind : LimitKind) → IsPassed path (Some source) kind → IsPassed path (files path) kind
  passed kind h = subst (λ (found : Option (List ℕ)). IsPassed path found kind) (sym is) h

  pub limit : (answer : Status) → LimitFits path (alike source) answer → LimitFits path files answer
  limit (Limit kind) h = passed kind h
  limit Done h = λ long. h (subst IsLong is long)
  limit (Refused finding) h = λ long. h (subst IsLong is long)
  limit WriteFault h = λ long. h (subst IsLong is long)
  limit (Usage kind) h = tt
  limit ReadFault h = tt
  limit Memory h = tt

  first_of : (finding : Finding) → IsFirst path (Some source) finding → IsFirst path (files path) finding
  first_of finding h = subst (λ (found : Option (List ℕ)). IsFirst path found finding) (sym is) h

  fine : IsFine path (Some source) → IsFine path (files path)
  fine h = subst (λ (found : Option (List ℕ)). IsFine path found) (sym is) h

  pub refusal : (answer : Status) → RefusalFits path (alike source) answer → RefusalFits path files answer
  refusal (Refused finding) h = first_of finding h
  refusal Done h = tt
  refusal (Limit kind) h = tt
  refusal WriteFault h = tt
  refusal (Usage kind) h = tt
  refusal ReadFault h = tt
  refusal Memory h = tt

  pub writing : (answer : Status) → WritingFits path (alike source) answer → WritingFits path files answer
  writing Done h = fine h
  writing WriteFault h = fine h
  writing (Refused finding) h = tt
  writing (Limit kind) h = tt
  writing (Usage kind) h = tt
  writing ReadFault h = tt
  writing Memory h = tt

  pub first : (answer : Status) → IsFirstOfSources path (alike source) answer → IsFirstOfSources path files answer
  first (Limit kind) h = passed kind h
  first (Refused finding) h = ((λ long. h.0 (subst IsLong is long)), first_of finding h.1)
  first Done h = ((λ long. h.0 (subst IsLong is long)), fine h.1)
  first (Usage kind) h = h
  first ReadFault h = h
  first WriteFault h = h
  first Memory h = h

  keeps : (text : List ℕ) → KeepsWinners source text → IfSome (files path) (λ bytes. KeepsWinners bytes text)
  keeps text h = subst (λ (found : Option (List ℕ)). IfSome found (λ bytes. KeepsWinners bytes text)) (sym is) h

  pub winners : (name : List ℕ) (before now : Option Names) (answer : Status) → WinnersFit name path (alike source) before now answer → WinnersFit name path files before now answer
  winners name before now Done h = (h.0, h.1, keeps h.0 h.2)
  winners name before now WriteFault h = (h.0, h.1, keeps h.0 h.2)
  winners name before now (Refused finding) h = tt
  winners name before now (Limit kind) h = tt
  winners name before now (Usage kind) h = tt
  winners name before now ReadFault h = tt
  winners name before now Memory h = tt

-- the line of a refusal counts in the entry's text, where the files are told
refusal_said : (told : Option Names) (path source bytes : List ℕ) (finding : Finding) (failed : Type 0) (before now : Names) → bytes ≡ source → IfSome told (λ files. files path ≡ Some source) → SaysRefusal path (Some (alike bytes)) finding failed before now → SaysRefusal path told finding failed before now
refusal_said told path source bytes finding failed before now same read h = record { text = h.text; of_file = of_file told read; said = h.said }
  where
    of_file : (told : Option Names) → IfSome told (λ files. files path ≡ Some source) → IfSome told (λ files. h.text ≡ bytes_under files path)
    of_file None read = tt
    of_file (Some files) read = h.of_file ∙ same ∙ sym (ap (λ (found : Option (List ℕ)). unwrap_or found []) read)

said_of : (told : Option Names) (name path source bytes : List ℕ) (failed : Type 0) (answer : Status) (before now : Names) → bytes ≡ source → IfSome told (λ files. files path ≡ Some source) → Said name path (Some (alike bytes)) failed answer before now → Said name path told failed answer before now
said_of told name path source bytes failed (Refused finding) before now same read h = refusal_said told path source bytes finding failed before now same read h
said_of told name path source bytes failed Done before now same read h = h
said_of told name path source bytes failed (Limit kind) before now same read h = h
said_of told name path source bytes failed (Usage kind) before now same read h = h
said_of told name path source bytes failed ReadFault before now same read h = h
said_of told name path source bytes failed WriteFault before now same read h = h
said_of told name path source bytes failed Memory before now same read h = h

pub said : (told : Option Names) (name path source bytes : List ℕ) (failed : Type 0) (answer : Status) (before now : Option Names) → bytes ≡ source → IfSome told (λ files. files path ≡ Some source) → Told before now (Said name path (Some (alike bytes)) failed answer) → Told before now (Said name path told failed answer)
said told name path source bytes failed answer before now same read h =
    told_weaker before now (Said name path (Some (alike bytes)) failed answer) (Said name path told failed answer) h (λ x y p. said_of told name path source bytes failed answer x y same read p)
