-- What a put of bytes to an output answers and leaves.
use Rattle.std.specs.Prelude.{◌≡◌, ◌≢◌, ℕ, List, [], ◌++◌, IsSome, Result, Ok, Err, take, ◌⊎◌, Contains, codes}
use Rattle.css_outside.specs.Names.{Names, bytes_under}
use Rattle.css_outside.specs.declared.outbox.PutFailed.{PutFailed}
use Rattle.css_outside.specs.declared.outbox.PutFailed.TheVariants.{Failed}

-- the name of standard error
abbrev pub message : List ℕ
message = codes "!"

-- may there be a put to this name, where these names were made ready? Standard error always is.
abbrev pub IsReady : List (List ℕ) → List ℕ → Type 0
IsReady ready name = (name ≡ message) ⊎ Contains ready name

-- the bytes of a piece that a put took, by its answer
abbrev pub taken : List ℕ → Result ℕ PutFailed → List ℕ
taken piece (Ok count) = take count piece
taken piece (Err Failed) = []

-- did the put get nowhere: did it fail, or take nothing of a piece that is not empty?
abbrev pub IsStuck : List ℕ → Result ℕ PutFailed → Type 0
IsStuck piece (Ok count) = (count ≡ 0) × (piece ≢ [])
IsStuck piece (Err Failed) = Unit {0}

-- Bytes were added under a name: all other names keep what they hold, and a name that is held stays so.
pub record Puts (name added : List ℕ) (before now : Names) : Type 0 where
  pub others : (other : List ℕ) → other ≢ name → now other ≡ before other
  pub grown : bytes_under now name ≡ bytes_under before name ++ added
  pub stays : IsSome (before name) → IsSome (now name)
