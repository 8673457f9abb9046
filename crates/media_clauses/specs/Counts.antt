-- Counts of clauses.
use Rattle.std.specs.Prelude.{ℕ, ◌-◌, ◌^◌, min}

-- a count, or the greatest number that is counted
abbrev pub capped : ℕ → ℕ
capped n = min n (2 ^ 64 - 1)
