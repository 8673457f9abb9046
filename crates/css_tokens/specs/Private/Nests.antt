-- What the tokens so far are made into: whole components, and blocks whose closing token is still to come (CSS Syntax 3, section 5.4.8).
use Rattle.std.specs.Prelude.{ℕ, List, [], ◌∷◌, ◌++◌, flat_map, map, reverse, Bool, ◌&&◌, ◌≡◌, Some, length}
use Rattle.std.specs.List.{list_all}
use Rattle.css_tokens.specs.declared.pairing.Nest.{Nest}
use Rattle.css_tokens.specs.declared.pairing.Opened.{Opened}
use Rattle.css_tokens.specs.Piece.{Piece}
use Rattle.css_tokens.specs.Pairing.{awaited_next}
use Rattle.css_tokens.specs.Trees.{opens, closing_text, pieces_all, all_formed}

-- the tokens from the start, or from behind the opening token of the block around, up to and with the opening token of this one
abbrev pub opened_pieces : Opened → List Piece
opened_pieces o = pieces_all o.before ++ o.opening ∷ []

-- all tokens so far
abbrev pub nest_pieces : Nest → List Piece
nest_pieces n = flat_map opened_pieces n.outer.items ++ pieces_all n.items

-- the text that closes an open block
abbrev pub opened_closing : Opened → List ℕ
opened_closing o = closing_text o.opening.text

-- the closing texts awaited, the innermost first
abbrev pub nest_awaited : Nest → List (List ℕ)
nest_awaited n = map opened_closing (reverse n.outer.items)

-- does an open block begin with a token that opens, and are the components before it well formed?
abbrev pub opened_formed : Opened → Bool
opened_formed o = opens o.opening.kind && all_formed o.before

-- each part so far is well formed
abbrev pub nest_formed : Nest → Bool
nest_formed n = list_all opened_formed n.outer.items && all_formed n.items

-- the token at this place opens a block inside 64 others
abbrev pub IsOneTooDeep : List (List ℕ) → Piece → ℕ → Type 0
IsOneTooDeep waiting token at = (at ≡ token.at) × (next : List (List ℕ)) × (awaited_next waiting token ≡ Some next) × (length next ≡ 65)
