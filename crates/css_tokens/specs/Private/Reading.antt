-- What the reader of tokens says of one token, and of a text whose control characters it did not look at.
use Rattle.std.specs.Prelude.{ℕ, ◌+◌, ◌≡◌, ◌<◌, ◌≤◌, List, length, false}
use Rattle.css_tokens.specs.declared.reader.TokenFault.{TokenFault}
use Rattle.css_tokens.specs.declared.reader.TokenFault.TheVariants.{Syntax, Memory}
use Rattle.std.specs.Str.{IsCharBoundary}
use Rattle.css_tokens.specs.Piece.{Piece, word_of}
use Rattle.css_tokens.specs.Tokens.{First, is_refused, StopsReading}

-- the piece is the first token of the text, it is read, and it is not empty
pub record Begins (text : List ℕ) (p : Piece) : Type 0 where
  pub first : First text (word_of p)
  pub read : is_refused p.kind ≡ false
  pub whole : length p.text ≤ length text
  pub some : 0 < length p.text
  pub cut : IsCharBoundary text (length p.text)

-- A syntax fault names the place where a checked text, which stands at the start, has no reading; memory may run out at any time.
abbrev pub IsReadingFault : ℕ → List ℕ → TokenFault → Type 0
IsReadingFault start text (Syntax o) = (n : ℕ) × StopsReading text n × (o ≡ start + n)
IsReadingFault start text Memory = Unit {0}
