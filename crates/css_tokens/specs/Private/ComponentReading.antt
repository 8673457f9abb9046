-- How the reader of components goes through a text: which tokens it has read of the text up to a place, and what a fault there says of the whole text.
use Rattle.std.specs.Prelude.{ℕ, ◌+◌, ◌-◌, ◌^◌, ◌≡◌, ◌<◌, ◌≤◌, ◌⊎◌, List, [], ◌++◌, length, map, take, drop, true, Some}
use Rattle.css_tokens.specs.declared.pairing.ComponentFault.{ComponentFault}
use Rattle.css_tokens.specs.declared.pairing.ComponentFault.TheVariants.{Syntax, Depth, Memory}
use Rattle.css_tokens.specs.declared.pairing.Nest.{Nest}
use Rattle.css_tokens.specs.Pairing.{awaited, depth, IsShallow, IsMismatch, IsTooDeep, IsBracketFault}
use Rattle.css_tokens.specs.Piece.{Piece, word_of, spelled}
use Rattle.css_tokens.specs.Private.Nests.{nest_pieces, nest_awaited, nest_formed}
use Rattle.css_tokens.specs.Tokens.{ReadsTo, IsPlaced, StopsReading}

-- the text, which stands at the start, reads as these pieces up to the rest, which stands at the place
pub record ReadsUpTo (start : ℕ) (text : List ℕ) (pieces : List Piece) (rest : List ℕ) (at : ℕ) : Type 0 where
  pub read : ReadsTo text (map word_of pieces) rest
  pub placed : IsPlaced start pieces
  pub behind : at ≡ start + length (spelled (map word_of pieces))

-- what reads as the old pieces up to the old rest reads as the new pieces up to the new rest
abbrev pub IsReadOn : List Piece → List ℕ → ℕ → List Piece → List ℕ → ℕ → Type 0
IsReadOn old old_rest old_at new new_rest new_at = (start : ℕ) (text : List ℕ) → ReadsUpTo start text old old_rest old_at → ReadsUpTo start text new new_rest new_at

-- all tokens of the text, which stands at the start, are read, and their brackets have this fault
pub record HasFaultFrom (start : ℕ) (text : List ℕ) (fault : ComponentFault) : Type 0 where
  pub pieces : List Piece
  pub read : ReadsTo text (map word_of pieces) []
  pub placed : IsPlaced start pieces
  pub found : IsBracketFault pieces (start + length text) fault

-- the first fault of the text, which stands at the start: a place where no token is read, or else the fault of brackets
abbrev pub IsFaultFrom : ℕ → List ℕ → ComponentFault → Type 0
IsFaultFrom start text (Syntax at) = ((n : ℕ) × StopsReading text n × (at ≡ start + n)) ⊎ HasFaultFrom start text (Syntax at)
IsFaultFrom start text (Depth at) = HasFaultFrom start text (Depth at)
IsFaultFrom start text Memory = Unit {0}

-- what reads as the pieces up to the rest has this first fault
abbrev pub IsFaultBehind : List Piece → List ℕ → ℕ → ComponentFault → Type 0
IsFaultBehind pieces rest at fault = (start : ℕ) (text : List ℕ) → ReadsUpTo start text pieces rest at → IsFaultFrom start text fault

-- the pieces have this fault of brackets, whatever follows them
abbrev pub IsFaultOf : List Piece → ComponentFault → Type 0
IsFaultOf pieces (Syntax at) = (more : List Piece) → IsMismatch (pieces ++ more) at
IsFaultOf pieces (Depth at) = (more : List Piece) → IsTooDeep (pieces ++ more) at
IsFaultOf pieces Memory = Unit {0}

-- a block is open behind each front of the pieces that is neither nothing nor all
abbrev pub IsOneBlock : List Piece → Type 0
IsOneBlock pieces = (n : ℕ) → 0 < n → n < length pieces → 0 < depth (take n pieces)

-- the nest holds the beginning of one component, and nothing is wrong with it
pub record HoldsOne (n : Nest) : Type 0 where
  pub matched : awaited (nest_pieces n) ≡ Some (nest_awaited n)
  pub shallow : IsShallow (nest_pieces n)
  pub within : length (nest_awaited n) ≤ 64
  pub formed : nest_formed n ≡ true
  pub one : IsOneBlock (nest_pieces n)

-- the nest holds nothing
pub record HoldsNothing (n : Nest) : Type 0 where
  pub outer : n.outer.items ≡ []
  pub items : n.items ≡ []

-- the reader of the text, which is short, stands before the rest, at this place, between two components
pub record StandsIn (text rest : List ℕ) (at : ℕ) (nest : Nest) : Type 0 where
  pub short : length text < 2 ^ 32 - 1
  pub within : at ≤ length text
  pub rest_is : rest ≡ drop at text
  pub nothing : HoldsNothing nest
