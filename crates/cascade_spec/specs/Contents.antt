-- What wins under a sheet, and what it is for another sheet to keep that.
use Rattle.std.specs.Prelude.{ℕ, List, Option, ◌≡◌}
use Rattle.sheet_types.specs.Statements.{BarePassed, Statement}
use Rattle.cascade_spec.specs.Cascade.{Question}
use Rattle.cascade_spec.specs.Showing.{showing, winner_among, last_ones}

-- the winning value under these statements, where there is one
abbrev pub winner : Question → List Statement → Option (List ℕ)
winner q statements = winner_among q.important (showing q statements)

-- the passed rules under these statements, in order; of equal ones the last stands
abbrev pub passed_rules : Question → List Statement → List BarePassed
passed_rules q statements = last_ones (showing q statements).passed

-- to this question the new statements answer as the old ones
pub record IsKept (q : Question) (old new : List Statement) : Type 0 where
  pub winner : winner q new ≡ winner q old
  pub passed : passed_rules q new ≡ passed_rules q old

-- to every question
abbrev pub SameWinners : List Statement → List Statement → Type 0
SameWinners old new = (q : Question) → IsKept q old new
