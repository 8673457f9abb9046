-- How far a text is read.
use Rattle.std.specs.Prelude.{ℕ, List}

-- a text, and how many of its bytes are read
pub record Progress : Type 0 where
  pub text : List ℕ
  pub at : ℕ
