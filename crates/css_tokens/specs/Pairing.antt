-- How closing tokens match opening ones (CSS Syntax 3, section 5.4.8), told by the tokens alone.
use Rattle.std.specs.Prelude.{ℕ, ◌≡◌, ◌⊎◌, ◌≤◌, List, [], ◌∷◌, ◌++◌, length, take, Option, Some, None, if◌then◌else◌, option_and_then, unwrap_or, Bool, true, ◌&&◌, nat_le, nat_lt}
use Rattle.css_tokens.specs.declared.pairing.ComponentFault.{ComponentFault}
use Rattle.css_tokens.specs.declared.pairing.ComponentFault.TheVariants.{Syntax, Depth, Memory}
use Rattle.css_tokens.specs.Piece.{Piece}
use Rattle.css_tokens.specs.Trees.{opens, closes, closing_text, is_text}

-- what is awaited after a token of this text closes the innermost open block
abbrev pub closed_by : List ℕ → List (List ℕ) → Option (List (List ℕ))
closed_by text [] = None
closed_by text (innermost ∷ outer) = if is_text text innermost then Some outer else None

-- What is awaited after one more token: the texts that close the open blocks, the innermost first.
abbrev pub awaited_next : List (List ℕ) → Piece → Option (List (List ℕ))
awaited_next waiting t = if opens t.kind then Some (closing_text t.text ∷ waiting) else (if closes t.kind then closed_by t.text waiting else Some waiting)

-- the same after more tokens; None where a closing token matches none
abbrev pub awaited_after : List (List ℕ) → List Piece → Option (List (List ℕ))
awaited_after waiting [] = Some waiting
awaited_after waiting (t ∷ ts) = option_and_then (λ next. awaited_after next ts) (awaited_next waiting t)

-- the texts that close the blocks which these tokens leave open, the innermost first; None where a closing token matches none
abbrev pub awaited : List Piece → Option (List (List ℕ))
awaited ts = awaited_after [] ts

-- how many blocks are open after these tokens
abbrev pub depth : List Piece → ℕ
depth ts = length (unwrap_or (awaited ts) [])

-- no front of the tokens leaves more than 64 blocks open
abbrev pub IsShallow : List Piece → Type 0
IsShallow ts = (n : ℕ) → depth (take n ts) ≤ 64

-- all brackets match, and no more than 64 blocks are open at once
pub record IsPaired (ts : List Piece) : Type 0 where
  pub all_closed : awaited ts ≡ Some []
  pub shallow : IsShallow ts

-- nothing is wrong before the token at this place
pub record IsSoundBefore (ts front : List Piece) (token : Piece) (at : ℕ) : Type 0 where
  pub rest : List Piece
  pub split : ts ≡ front ++ token ∷ rest
  pub waiting : List (List ℕ)
  pub matched : awaited front ≡ Some waiting
  pub shallow : IsShallow front
  pub place : at ≡ token.at

-- a closing token at this place matches no open one, and nothing is wrong before it
pub record IsMismatch (ts : List Piece) (at : ℕ) : Type 0 where
  pub front : List Piece
  pub token : Piece
  pub before : IsSoundBefore ts front token at
  pub none : awaited (front ++ token ∷ []) ≡ None

-- the opening token at this place makes the depth 65, and nothing is wrong before it
pub record IsTooDeep (ts : List Piece) (at : ℕ) : Type 0 where
  pub front : List Piece
  pub token : Piece
  pub before : IsSoundBefore ts front token at
  pub deep : depth (front ++ token ∷ []) ≡ 65

-- a block is still open at the end, and nothing else is wrong
pub record IsUnclosed (ts : List Piece) (end at : ℕ) : Type 0 where
  pub innermost : List ℕ
  pub outer : List (List ℕ)
  pub unclosed : awaited ts ≡ Some (innermost ∷ outer)
  pub shallow : IsShallow ts
  pub place : at ≡ end

-- the brackets of these tokens have this fault, where the text ends at end; want of memory is no such fault
abbrev pub IsBracketFault : List Piece → ℕ → ComponentFault → Type 0
IsBracketFault ts end (Syntax at) = IsMismatch ts at ⊎ IsUnclosed ts end at
IsBracketFault ts end (Depth at) = IsTooDeep ts at
IsBracketFault ts end Memory = ⊥

-- do the places of the tokens rise, and is none greater than end?
abbrev pub places_rise : List Piece → ℕ → Bool
places_rise [] end = true
places_rise (t ∷ []) end = nat_le t.at end
places_rise (t ∷ u ∷ ts) end = nat_lt t.at u.at && places_rise (u ∷ ts) end
