-- What parts of a run put to an output, and what they leave.
use Rattle.std.specs.Prelude.{◌≡◌, ◌≢◌, ℕ, ◌≤◌, List, ◌++◌, Option, IsSome, length}
use Rattle.css_outside.specs.Names.{Names, Told, bytes_under}
use Rattle.csslower.specs.Writing.{standard, WroteAll, WroteFront, SameOutputs}
use Rattle.csslower.specs.declared.status.Status.{Status}
use Rattle.csslower.specs.declared.status.Status.TheVariants.{Done, Refused, Usage, ReadFault, WriteFault, Memory, Limit}

-- this text is written whole to standard output, or from its front where that failed, or nothing is where memory was refused
abbrev pub Writes : List ℕ → Option Names → Option Names → Status → Type 0
Writes text before now Done = Told before now (WroteAll standard text)
Writes text before now WriteFault = Told before now (WroteFront standard text)
Writes text before now Memory = Told before now SameOutputs
Writes text before now (Refused finding) = ⊥
Writes text before now (Usage kind) = ⊥
Writes text before now ReadFault = ⊥
Writes text before now (Limit kind) = ⊥

-- A text was put under a name up to this rest: all other names keep what they hold, and a name that is held stays so.
pub record PutsBut (name text rest : List ℕ) (before now : Names) : Type 0 where
  pub others : (other : List ℕ) → other ≢ name → now other ≡ before other
  pub grown : bytes_under now name ++ rest ≡ bytes_under before name ++ text
  pub within : length rest ≤ length text
  pub stays : IsSome (before name) → IsSome (now name)

-- a part of the text was put from its front, perhaps nothing and perhaps all
abbrev pub PutsFront : List ℕ → List ℕ → Names → Names → Type 0
PutsFront name text before now = (rest : List ℕ) × PutsBut name text rest before now
