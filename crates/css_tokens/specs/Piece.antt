-- Tokens as contracts see them (CSS Syntax 3, section 4).
use Rattle.std.specs.Prelude.{ℕ, List, flat_map}
use Rattle.css_tokens.specs.declared.kind.Kind.{Kind}

-- a token: its kind, its characters as bytes, and how many bytes of the source stand before it
pub record Piece : Type 0 where
  pub kind : Kind
  pub text : List ℕ
  pub at : ℕ

-- a token without its place
pub record Word : Type 0 where
  pub kind : Kind
  pub text : List ℕ

-- the token without its place
abbrev pub word_of : Piece → Word
word_of p = record { kind = p.kind; text = p.text }

-- the text that words spell, one after another
abbrev pub spelled : List Word → List ℕ
spelled ws = flat_map (λ w. w.text) ws
