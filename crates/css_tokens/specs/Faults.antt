-- What a fault of the reader of tokens says (CSS Syntax 3, section 4).
use Rattle.std.specs.Prelude.{ℕ, ◌≡◌, List, Result, Ok, Err}
use Rattle.css_tokens.specs.declared.reader.TokenFault.{TokenFault}
use Rattle.css_tokens.specs.declared.reader.TokenFault.TheVariants.{Syntax, Memory}
use Rattle.css_tokens.specs.Piece.{Piece}
use Rattle.css_tokens.specs.Tokens.{StopsAt}

-- a syntax fault names the place where the text has no reading; memory may run out at any time
abbrev pub IsFault : List ℕ → TokenFault → Type 0
IsFault text (Syntax o) = StopsAt text o
IsFault text Memory = Unit {0}

-- the answer is a syntax fault at this place, or memory ran out
abbrev pub RefusesAt : Result (List Piece) TokenFault → ℕ → Type 0
RefusesAt (Ok ts) o = ⊥
RefusesAt (Err (Syntax p)) o = p ≡ o
RefusesAt (Err Memory) o = Unit {0}
