-- What a text that is put to an output leaves.
use Rattle.std.specs.Prelude.{◌≡◌, ◌≢◌, ℕ, ◌≤◌, List, ◌++◌, IsSome, length, codes}
use Rattle.css_outside.specs.Names.{Names, bytes_under}
use Rattle.css_outside.specs.Putting.{message, Puts}

-- the name of standard output
abbrev pub standard : List ℕ
standard = codes "-"

-- no name but that of standard error has changed
abbrev pub SameOutputs : Names → Names → Type 0
SameOutputs before now = (name : List ℕ) → name ≢ message → now name ≡ before name

-- The output of a name is held and got the text whole, and nothing else has changed.
pub record WroteAll (name text : List ℕ) (before now : Names) : Type 0 where
  pub puts : Puts name text before now
  pub held : IsSome (now name)

-- The output of a name got the text up to this rest, and nothing else but standard error has changed.
pub record WroteBut (name text rest : List ℕ) (before now : Names) : Type 0 where
  pub others : (other : List ℕ) → other ≢ name → other ≢ message → now other ≡ before other
  pub grown : bytes_under now name ++ rest ≡ bytes_under before name ++ text
  pub within : length rest ≤ length text
  pub stays : IsSome (before name) → IsSome (now name)

-- a part of the text was put to the output of a name from its front, perhaps nothing and perhaps all
abbrev pub WroteFront : List ℕ → List ℕ → Names → Names → Type 0
WroteFront name text before now = (rest : List ℕ) × WroteBut name text rest before now
