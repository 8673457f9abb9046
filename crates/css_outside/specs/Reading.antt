-- What a read of a file answers.
use Rattle.std.specs.Prelude.{◌≡◌, ◌≤◌, ℕ, Bool, true, false, List, [], ◌∷◌, ◌++◌, length, Option, Result, Ok, Err, take, IfOk, IfSome}
use Rattle.std.specs.Option.{option_map}
use Rattle.css_outside.specs.Names.{Names}
use Rattle.css_outside.specs.declared.files.FilesFault.{FilesFault}
use Rattle.css_outside.specs.declared.files.FilesFault.TheVariants.{Failed, Memory}

-- the first bytes of the file of this path, if there is one
abbrev pub first_bytes : Names → List ℕ → ℕ → Option (List ℕ)
first_bytes files path most = option_map (take most) (files path)

-- where the files are told, an answer that is no fault is the first bytes of the file
abbrev pub ReadsFirst : Option Names → List ℕ → ℕ → Result (Option (List ℕ)) FilesFault → Type 0
ReadsFirst told path most result = IfSome told (λ files. IfOk result (λ found. found ≡ first_bytes files path most))

-- an answer that has bytes has at most so many
abbrev pub HasAtMost : ℕ → Result (Option (List ℕ)) FilesFault → Type 0
HasAtMost most result = IfOk result (λ found. IfSome found (λ bytes. length bytes ≤ most))

-- the paths asked so far, after a read: want of memory adds none
abbrev pub asked_after : List (List ℕ) → List ℕ → Result (Option (List ℕ)) FilesFault → List (List ℕ)
asked_after asked path (Ok found) = asked ++ path ∷ []
asked_after asked path (Err Failed) = asked ++ path ∷ []
asked_after asked path (Err Memory) = asked

-- a fact where the answer is that the read failed
abbrev pub IfFailed : Result (Option (List ℕ)) FilesFault → Type 0 → Type 0
IfFailed (Ok found) P = Unit {0}
IfFailed (Err Failed) P = P
IfFailed (Err Memory) P = Unit {0}

-- a fact where the answer is not that the read failed
abbrev pub UnlessFailed : Result (Option (List ℕ)) FilesFault → Type 0 → Type 0
UnlessFailed (Ok found) P = P
UnlessFailed (Err Failed) P = Unit {0}
UnlessFailed (Err Memory) P = P

-- the read failed exactly where this is so; only want of memory may come instead
abbrev pub FailsWhere : Bool → Result (Option (List ℕ)) FilesFault → Type 0
FailsWhere fails (Ok found) = fails ≡ false
FailsWhere fails (Err Failed) = fails ≡ true
FailsWhere fails (Err Memory) = Unit {0}
