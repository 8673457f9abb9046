-- The component values that a text spells by itself (CSS Syntax 3, sections 4.3.1 and 5.4.7), each at the place 0.
use Rattle.std.specs.Prelude.{ℕ, suc, zero, List, [], ◌∷◌, length, drop, ◌&&◌, Option, Some, None, if◌then◌else◌}
use Rattle.std.specs.Option.{option_map}
use Rattle.css_tokens.specs.declared.kind.Kind.TheVariants as kinds
use Rattle.css_tokens.specs.declared.component.Component.{Component}
use Rattle.css_tokens.specs.Piece.{Word}
use Rattle.css_tokens.specs.Tokens.{first_front, word}
use Rattle.css_tokens.specs.Trees.{all_formed, closes, is_text, opens}
use Rattle.media_spelling.specs.Components.{block, single, text_of}

-- the first token of a text, where one is spelled there
abbrev pub first_word : List ℕ → Option Word
first_word text = option_map (word text) (first_front text)

-- a word and what stands behind it, where there is a word
abbrev pub word_and : Option Word → (Word → List Word) → List Word
word_and None rest = []
word_and (Some w) rest = w ∷ rest w

-- the first tokens of a text, at most so many
abbrev pub words_up_to : ℕ → List ℕ → List Word
words_up_to zero text = []
words_up_to (suc n) text = word_and (first_word text) (λ w. words_up_to n (drop (length w.text) text))

-- the tokens of a text, up to where none is spelled
abbrev pub words_in : List ℕ → List Word
words_in text = words_up_to (length text) text

-- The components that a row of tokens begins with, up to a token that closes what is opened before the row; and the
-- components behind that token, and behind each further such token.
pub record Levels : Type 0 where
  pub here : List Component
  pub outer : List (List Component)

-- with a block in front, whose opening token is this word
abbrev pub opened : Word → List Component → List (List Component) → Levels
opened w inside [] = record { here = inside; outer = [] }
opened w inside (behind ∷ outer) = record { here = block w.kind w.text inside ∷ behind; outer = outer }

-- with one more token in front
abbrev pub level_before : Word → Levels → Levels
level_before w l =
    if closes w.kind then record { here = []; outer = l.here ∷ l.outer }
    else (if opens w.kind then opened w l.here l.outer
    else record { here = single w.kind w.text ∷ l.here; outer = l.outer })

-- the components of a row of tokens
abbrev pub levels_of : List Word → Levels
levels_of [] = record { here = []; outer = [] }
levels_of (w ∷ ws) = level_before w (levels_of ws)

-- these components where they are well formed and their text is this one, and else the text as one word
abbrev pub or_word : List Component → List ℕ → List Component
or_word cs text = if all_formed cs && is_text (text_of cs) text then cs else single kinds.Ident text ∷ []

-- The components that a text spells. A text that spells none, which no reading gives, is taken as one word.
unfoldable pub text_components : List ℕ → List Component
text_components text = or_word (levels_of (words_in text)).here text
