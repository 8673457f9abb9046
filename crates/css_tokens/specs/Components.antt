-- The component values of a text, and the first fault of a text that has none (CSS Syntax 3, sections 4 and 5).
use Rattle.std.specs.Prelude.{ℕ, ◌+◌, ◌≡◌, ◌⊎◌, List, length, drop, map, IsTrue, None}
use Rattle.css_tokens.specs.declared.component.Component.{Component}
use Rattle.css_tokens.specs.declared.pairing.ComponentFault.{ComponentFault}
use Rattle.css_tokens.specs.declared.pairing.ComponentFault.TheVariants.{Syntax, Depth, Memory}
use Rattle.css_tokens.specs.Pairing.{IsPaired, IsBracketFault}
use Rattle.css_tokens.specs.Piece.{Piece, word_of, spelled}
use Rattle.css_tokens.specs.Progress.{Progress}
use Rattle.css_tokens.specs.Tokens.{Reads, ReadsTo, IsPlaced, StopsAt, after_mark, bad_place, mark_length}
use Rattle.css_tokens.specs.Trees.{pieces_all, words_all, all_formed}

-- the tokens of the text, each in its place, behind a byte order mark (CSS Syntax 3, section 4)
pub record HasTokens (text : List ℕ) (tokens : List Piece) : Type 0 where
  pub read : Reads text (map word_of tokens)
  pub placed : IsPlaced (mark_length text) tokens

-- the component values of the text, their brackets paired (CSS Syntax 3, section 5)
pub record HasComponents (text : List ℕ) (components : List Component) : Type 0 where
  pub tokens : HasTokens text (pieces_all components)
  pub formed : IsTrue (all_formed components)
  pub paired : IsPaired (pieces_all components)

-- the text has tokens, and their brackets have this fault
abbrev pub HasBracketFault : List ℕ → ComponentFault → Type 0
HasBracketFault text fault = (tokens : List Piece) × HasTokens text tokens × IsBracketFault tokens (length text) fault

-- The text has no components, and this is why: a place where no token is read, wherever it is, or else the fault of brackets. Memory may run out at any time.
abbrev pub IsFirstFault : List ℕ → ComponentFault → Type 0
IsFirstFault text (Syntax at) = StopsAt text at ⊎ HasBracketFault text (Syntax at)
IsFirstFault text (Depth at) = HasBracketFault text (Depth at)
IsFirstFault text Memory = Unit {0}

-- the bytes that are read are a byte order mark, where the text has one, and these component values, each whole
pub record HasRead (progress : Progress) (components : List Component) : Type 0 where
  pub good : bad_place (after_mark progress.text) ≡ None
  pub read : ReadsTo (after_mark progress.text) (words_all components) (drop progress.at progress.text)
  pub placed : IsPlaced (mark_length progress.text) (pieces_all components)
  pub behind : progress.at ≡ mark_length progress.text + length (spelled (words_all components))
  pub formed : IsTrue (all_formed components)
  pub paired : IsPaired (pieces_all components)
