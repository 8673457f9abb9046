-- What was asked, by the answer.
use Rattle.std.specs.Prelude.{◌≡◌, ℕ, List, [], ◌∷◌, ◌++◌, map, Result, Ok, Err}
use Rattle.css_outside.specs.Names.{Names}
use Rattle.css_outside.specs.declared.files.FilesFault.{FilesFault}
use Rattle.css_outside.specs.declared.files.FilesFault.TheVariants.{Failed, Memory as NoMemory}
use Rattle.import_graph.specs.Files.{Naming, file_told, paths_of, targets_told}
use Rattle.import_graph.specs.Waves.{IsAll, IsCut, IsFront}
use Rattle.import_graph.specs.declared.fault.LoadFault.{LoadFault}
use Rattle.import_graph.specs.declared.fault.LoadFault.TheVariants.{ReadFault, Limit, Memory}
use Rattle.import_graph.specs.declared.found.Found.{Found}
use Rattle.import_graph.specs.declared.found.ReadFile.{ReadFile}

-- the paths asked so far, after a read: want of memory adds none
abbrev pub asked_after : List (List ℕ) → List ℕ → Result Found FilesFault → List (List ℕ)
asked_after asked path (Ok found) = asked ++ path ∷ []
asked_after asked path (Err Failed) = asked ++ path ∷ []
asked_after asked path (Err NoMemory) = asked

-- a fact where the answer is that the read failed
abbrev pub IfFailed : Result Found FilesFault → Type 0 → Type 0
IfFailed (Ok found) P = Unit {0}
IfFailed (Err Failed) P = P
IfFailed (Err NoMemory) P = Unit {0}

-- a fact where the answer is not that the read failed
abbrev pub UnlessFailed : Result Found FilesFault → Type 0 → Type 0
UnlessFailed (Ok found) P = P
UnlessFailed (Err Failed) P = Unit {0}
UnlessFailed (Err NoMemory) P = P

-- a fact where the answer is the path whose read failed
abbrev pub IfReadFault : {A : Type 0} → Result A LoadFault → Type 0 → Type 0
IfReadFault (Ok answer) P = Unit {0}
IfReadFault (Err (ReadFault path)) P = P
IfReadFault (Err Limit) P = Unit {0}
IfReadFault (Err Memory) P = Unit {0}

-- a fact where the answer is another
abbrev pub UnlessReadFault : {A : Type 0} → Result A LoadFault → Type 0 → Type 0
UnlessReadFault (Ok answer) P = P
UnlessReadFault (Err (ReadFault path)) P = Unit {0}
UnlessReadFault (Err Limit) P = P
UnlessReadFault (Err Memory) P = P

-- the first of these paths were asked
pub record EndsIn (asked paths now : List (List ℕ)) : Type 0 where
  pub before : List (List ℕ)
  pub rest : List (List ℕ)
  pub asks : now ≡ asked ++ before
  pub front : before ++ rest ≡ paths

-- the first of these paths were asked, and this one was the last of them
pub record EndsAt (path : List ℕ) (asked paths now : List (List ℕ)) : Type 0 where
  pub before : List (List ℕ)
  pub rest : List (List ℕ)
  pub asks : now ≡ asked ++ (before ++ path ∷ [])
  pub front : (before ++ path ∷ []) ++ rest ≡ paths

-- what was asked, and what was found, where the files of these paths were read in turn
abbrev pub Reads : Names → List (List ℕ) → List (List ℕ) → List (List ℕ) → List ReadFile → List ReadFile → Result (Unit {0}) LoadFault → Type 0
Reads told paths asked now read more (Ok done) = (now ≡ asked ++ paths) × (more ≡ read ++ map (file_told told) paths)
Reads told paths asked now read more (Err (ReadFault path)) = EndsAt path asked paths now
Reads told paths asked now read more (Err Limit) = ⊥
Reads told paths asked now read more (Err Memory) = EndsIn asked paths now

-- what was asked and what was found, by the answer: all files; or all paths up to the one whose read failed; or all before the wave that would bring too many
abbrev pub Asks : {A : Type 0} → (A → List ReadFile) → Naming → Names → List ℕ → List (List ℕ) → List (List ℕ) → Result A LoadFault → Type 0
Asks files_of naming told entry asked now (Ok answer) =
    (now ≡ asked ++ paths_of (files_of answer)) × (files_of answer ≡ map (file_told told) (paths_of (files_of answer))) × IsAll (targets_told naming told) entry (paths_of (files_of answer))
Asks files_of naming told entry asked now (Err (ReadFault path)) =
    (before : List (List ℕ)) × (now ≡ asked ++ (before ++ path ∷ [])) × IsFront (targets_told naming told) entry (before ++ path ∷ [])
Asks files_of naming told entry asked now (Err Limit) = (paths : List (List ℕ)) × (now ≡ asked ++ paths) × IsCut (targets_told naming told) entry paths
Asks files_of naming told entry asked now (Err Memory) = (paths : List (List ℕ)) × (now ≡ asked ++ paths) × IsFront (targets_told naming told) entry paths
