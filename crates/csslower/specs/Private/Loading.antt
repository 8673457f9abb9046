-- What the read of a file gave.
use Rattle.std.specs.Prelude.{◌≡◌, ℕ, ◌≤◌, List, ◌∷◌, [], ◌++◌, length, Option, Some, None}
use Rattle.css_outside.specs.Names.{Names}
use Rattle.csslower.specs.Answers.{IsLong}
use Rattle.csslower.specs.declared.load.Load.{Load}
use Rattle.csslower.specs.declared.load.Load.TheVariants.{Whole, Long, Missing, Failed, Memory}

-- files of which each, whatever its path, is this text
abbrev pub alike : List ℕ → Names
alike text path = Some text

-- the file is as the read gave it
abbrev pub IsLoaded : Option (List ℕ) → Load → Type 0
IsLoaded found (Whole bytes) = found ≡ Some bytes
IsLoaded found Long = IsLong found
IsLoaded found Missing = found ≡ None
IsLoaded found Failed = Unit {0}
IsLoaded found Memory = Unit {0}

-- a whole file has at most 4 MiB
abbrev pub IsShort : Load → Type 0
IsShort (Whole bytes) = length bytes ≤ 4194304
IsShort Long = Unit {0}
IsShort Missing = Unit {0}
IsShort Failed = Unit {0}
IsShort Memory = Unit {0}

-- a fact where the read failed
abbrev pub IfFailed : Load → Type 0 → Type 0
IfFailed Failed P = P
IfFailed (Whole bytes) P = Unit {0}
IfFailed Long P = Unit {0}
IfFailed Missing P = Unit {0}
IfFailed Memory P = Unit {0}

-- a fact where the read did not fail
abbrev pub UnlessFailed : Load → Type 0 → Type 0
UnlessFailed Failed P = Unit {0}
UnlessFailed (Whole bytes) P = P
UnlessFailed Long P = P
UnlessFailed Missing P = P
UnlessFailed Memory P = P

-- the paths asked so far, after a read: want of memory adds none
abbrev pub asked_after : List (List ℕ) → List ℕ → Load → List (List ℕ)
asked_after asked path Memory = asked
asked_after asked path (Whole bytes) = asked ++ path ∷ []
asked_after asked path Long = asked ++ path ∷ []
asked_after asked path Missing = asked ++ path ∷ []
asked_after asked path Failed = asked ++ path ∷ []

-- the read gave an answer
abbrev pub IsOfRead : Load → Type 0
IsOfRead (Whole bytes) = Unit {0}
IsOfRead Long = Unit {0}
IsOfRead Missing = Unit {0}
IsOfRead Failed = ⊥
IsOfRead Memory = ⊥
