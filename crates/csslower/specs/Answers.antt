-- Which answer a file gets.
use Rattle.std.specs.Prelude.{◌≡◌, ◌↔◌, ℕ, ◌<◌, List, length, IsTrue, false, Option, Some, None, MatchOption}
use Rattle.css_places.specs.declared.finding.Code.{Code}
use Rattle.css_places.specs.declared.finding.Code.TheVariants.{Missing, Unbuilt}
use Rattle.css_places.specs.declared.finding.Finding.{Finding}
use Rattle.css_places.specs.declared.finding.LimitKind.{LimitKind}
use Rattle.css_places.specs.declared.finding.LimitKind.TheVariants.{L2, L8}
use Rattle.css_outside.specs.Names.{Names}
use Rattle.csslower.specs.Words.{usage_of, entry_path, is_scoped}
use Rattle.csslower.specs.Findings.{HasFinding, IsAccepted, PassesLimit}
use Rattle.csslower.specs.declared.status.Status.{Status}
use Rattle.csslower.specs.declared.status.WordKind.{WordKind}
use Rattle.csslower.specs.declared.status.Status.TheVariants.{Done, Refused, Usage, ReadFault, WriteFault, Memory, Limit}

-- the number with which the program ends
abbrev pub number_of : Status → ℕ
number_of Done = 0
number_of (Refused finding) = 1
number_of (Usage kind) = 2
number_of ReadFault = 3
number_of WriteFault = 4
number_of Memory = 5
number_of (Limit kind) = 6

-- the file is there, and longer than 4 MiB
abbrev pub IsLong : Option (List ℕ) → Type 0
IsLong None = ⊥
IsLong (Some bytes) = 4194304 < length bytes

-- This stands first against the file: that it is not there, else that its names are scoped, else what stands against its text.
abbrev pub StandsFirst : List ℕ → Option (List ℕ) → ℕ → Code → Type 0
StandsFirst path None offset code = (offset ≡ 0) × (code ≡ Missing)
StandsFirst path (Some bytes) offset code =
    (IsTrue (is_scoped path) → (offset ≡ 0) × (code ≡ Unbuilt)) × (is_scoped path ≡ false → HasFinding bytes code offset)

-- the finding has the one file's number, and stands first against it
abbrev pub IsFirst : List ℕ → Option (List ℕ) → Finding → Type 0
IsFirst path found finding = (finding.place.file ≡ 0) × StandsFirst path found finding.place.offset finding.code

-- the file is there, and nothing stands against it
abbrev pub IsFine : List ℕ → Option (List ℕ) → Type 0
IsFine path None = ⊥
IsFine path (Some bytes) = (is_scoped path ≡ false) × IsAccepted bytes

-- the file is there, its names are not scoped, and its text passes the limit of media query lists
abbrev pub IsWide : List ℕ → Option (List ℕ) → Type 0
IsWide path None = ⊥
IsWide path (Some bytes) = (is_scoped path ≡ false) × PassesLimit bytes L8

-- the limit is passed first: the file is too long, or it is not and its text passes the limit
abbrev pub IsPassed : List ℕ → Option (List ℕ) → LimitKind → Type 0
IsPassed path found L2 = IsLong found
IsPassed path found L8 = (IsLong found → ⊥) × IsWide path found

-- the answer is that the words are no command, and why, exactly where they are none for this reason
abbrev pub UsageFits : List (List ℕ) → Status → Type 0
UsageFits words answer = (kind : WordKind) → (answer ≡ Usage kind) ↔ (usage_of words ≡ Some kind)

-- the answer is a limit where the entry's file passes it, and no answer that judges the sources where the file is too long
abbrev pub LimitFits : List ℕ → Names → Status → Type 0
LimitFits entry sources (Limit kind) = IsPassed entry (sources entry) kind
LimitFits entry sources Done = IsLong (sources entry) → ⊥
LimitFits entry sources (Refused finding) = IsLong (sources entry) → ⊥
LimitFits entry sources WriteFault = IsLong (sources entry) → ⊥
LimitFits entry sources (Usage kind) = Unit {0}
LimitFits entry sources ReadFault = Unit {0}
LimitFits entry sources Memory = Unit {0}

-- a refusal names what stands first against the sources
abbrev pub RefusalFits : List ℕ → Names → Status → Type 0
RefusalFits entry sources (Refused finding) = IsFirst entry (sources entry) finding
RefusalFits entry sources Done = Unit {0}
RefusalFits entry sources (Usage kind) = Unit {0}
RefusalFits entry sources ReadFault = Unit {0}
RefusalFits entry sources WriteFault = Unit {0}
RefusalFits entry sources Memory = Unit {0}
RefusalFits entry sources (Limit kind) = Unit {0}

-- a text is written only where nothing stands against the sources
abbrev pub WritingFits : List ℕ → Names → Status → Type 0
WritingFits entry sources Done = IsFine entry (sources entry)
WritingFits entry sources WriteFault = IsFine entry (sources entry)
WritingFits entry sources (Refused finding) = Unit {0}
WritingFits entry sources (Usage kind) = Unit {0}
WritingFits entry sources ReadFault = Unit {0}
WritingFits entry sources Memory = Unit {0}
WritingFits entry sources (Limit kind) = Unit {0}

-- This answer stands first of those about the sources: that the entry's file is too long, else the finding that stands first
-- against it, else the limit that its text passes, else `Done`, which says that nothing stands against it.
abbrev pub IsFirstOfSources : List ℕ → Names → Status → Type 0
IsFirstOfSources entry sources (Limit kind) = IsPassed entry (sources entry) kind
IsFirstOfSources entry sources (Refused finding) = (IsLong (sources entry) → ⊥) × IsFirst entry (sources entry) finding
IsFirstOfSources entry sources Done = (IsLong (sources entry) → ⊥) × IsFine entry (sources entry)
IsFirstOfSources entry sources (Usage kind) = ⊥
IsFirstOfSources entry sources ReadFault = ⊥
IsFirstOfSources entry sources WriteFault = ⊥
IsFirstOfSources entry sources Memory = ⊥

-- `First` over the words and their sources: what is wrong with the words, where they are no command, else the first of the
-- answers about the sources. `Done` says that none stands.
abbrev pub First : List (List ℕ) → Names → Status → Type 0
First words sources answer = MatchOption (usage_of words) (IsFirstOfSources (entry_path words) sources answer) (λ kind. answer ≡ Usage kind)

-- over these words and sources an answer stands first, and no more than one
pub record HasFirst (words : List (List ℕ)) (sources : Names) : Type 0 where
  pub some : (answer : Status) × First words sources answer
  pub one : (a b : Status) → First words sources a → First words sources b → a ≡ b
