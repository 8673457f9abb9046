-- Tokens of a prelude that wait for a later stage, seen one after another.
use Rattle.std.specs.Prelude.{ℕ, List, [], ◌∷◌, Option, Some, None, if◌then◌else◌}
use Rattle.css_tokens.specs.Piece.{Piece}
use Rattle.selector_tree.specs.Signs.{is_comment_kind}
use Rattle.css_rules.specs.declared.waiting.Seen.{Seen}
use Rattle.css_rules.specs.declared.waiting.Seen.TheVariants.{Nothing, Colon, Waiting}
use Rattle.css_components.specs.Components.{is_colon_kind}
use Rattle.css_rules.specs.Refusals.{is_ampersand, is_is}

-- what is seen at a token with nothing before it
abbrev pub begun : Piece → Seen
begun token = if is_ampersand token.kind token.text then Waiting token.at else (if is_colon_kind token.kind then Colon token.at else Nothing)

-- what is seen at one more token
abbrev pub seen_at : Seen → Piece → Seen
seen_at Nothing token = begun token
seen_at (Colon at) token = if is_comment_kind token.kind then Colon at else (if is_is token.kind token.text then Waiting at else begun token)
seen_at (Waiting at) token = Waiting at

-- what is seen at more tokens
abbrev pub seen_over : Seen → List Piece → Seen
seen_over seen [] = seen
seen_over seen (token ∷ tokens) = seen_over (seen_at seen token) tokens

-- the place of what waits
abbrev pub place_seen : Seen → Option ℕ
place_seen Nothing = None
place_seen (Colon at) = None
place_seen (Waiting at) = Some at
