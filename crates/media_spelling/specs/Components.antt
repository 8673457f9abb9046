-- Component values as they are written, each at the place 0 (CSS Syntax 3, section 5).
use Rattle.std.specs.Prelude.{ℕ, List, [], ◌∷◌, codes}
use Rattle.css_tokens.specs.declared.kind.Kind.{Kind}
use Rattle.css_tokens.specs.declared.kind.Kind.TheVariants as kinds
use Rattle.css_tokens.specs.declared.component.Component.{Component}
use Rattle.css_tokens.specs.declared.component.Component as component
use Rattle.css_tokens.specs.NameText.{name_text}
use Rattle.css_tokens.specs.Piece.{spelled}
use Rattle.css_tokens.specs.Trees.{words_all}

-- a token that opens and closes nothing
abbrev pub single : Kind → List ℕ → Component
single kind text = component.Single (record { kind = kind; text = text; at = 0 })

-- a block: the token that opens it, and what stands in it
abbrev pub block : Kind → List ℕ → List Component → Component
block kind text items = component.Block (record { opening = record { kind = kind; text = text; at = 0 }; items = items; close = 0 })

-- the identifier that spells this name
abbrev pub ident : List ℕ → Component
ident name = single kinds.Ident (name_text name)

-- the keyword of this text
abbrev pub keyword : List ℕ → Component
keyword text = single kinds.Ident text

-- the Delim of this text
abbrev pub delim : List ℕ → Component
delim text = single kinds.Delim text

-- one space
abbrev pub space : Component
space = single kinds.White (codes " ")

-- a comma
abbrev pub comma : Component
comma = single kinds.Comma (codes ",")

-- a colon
abbrev pub colon : Component
colon = single kinds.Colon (codes ":")

-- what stands in parentheses
abbrev pub parens : List Component → Component
parens items = block kinds.Open (codes "(") items

-- the text of components
abbrev pub text_of : List Component → List ℕ
text_of cs = spelled (words_all cs)
