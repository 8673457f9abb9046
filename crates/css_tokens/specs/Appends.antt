-- What a writer that ran out of memory leaves.
use Rattle.std.specs.Prelude.{ℕ, ◌≡◌, List, ◌++◌}

-- new is old, followed by a front of the text
pub record AppendsFront (old new text : List ℕ) : Type 0 where
  pub front : List ℕ
  pub rest : List ℕ
  pub split : text ≡ front ++ rest
  pub appended : new ≡ old ++ front
