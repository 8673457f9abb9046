-- Short texts for the worked examples.
use Prim.Native.String.{String}
use Rattle.std.specs.Prelude.{ℕ, List, [], ◌∷◌, map, codes, if◌then◌else◌, nat_eq, ◌||◌}
use Rattle.css_tokens.specs.declared.kind.Kind.{Kind}
use Rattle.css_tokens.specs.declared.kind.Kind.TheVariants as kind
use Rattle.css_tokens.specs.Piece.{Piece, Word}

-- a token of this kind and text, its place aside
abbrev pub word : Kind → String → Word
word k text = record { kind = k; text = codes text }

-- the kind of a bracket, and of any other character an Ident
abbrev pub bracket_kind : ℕ → Kind
bracket_kind c =
    if nat_eq c 40 || (nat_eq c 91 || nat_eq c 123) then kind.Open
    else (if nat_eq c 41 || (nat_eq c 93 || nat_eq c 125) then kind.Close else kind.Ident)

-- the tokens of a text in which each character is one
abbrev pub brackets : String → List Piece
brackets text = map (λ c. record { kind = bracket_kind c; text = c ∷ []; at = 0 }) (codes text)
