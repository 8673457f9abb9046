-- Runs of white space and comments, and how a value prints (CSS Syntax 3, section 10).
use Rattle.std.specs.Prelude.{ℕ, List, [], ◌∷◌, map, Bool, true, false, not, ◌&&◌, if◌then◌else◌, codes}
use Rattle.css_tokens.specs.declared.kind.Kind.{Kind}
use Rattle.css_tokens.specs.declared.kind.Kind.TheVariants.{White, Comment, Ident, Function, Url, At, Hash, String, Number, Percentage, Dimension, Colon, Semicolon, Comma, Open, Close, Delim, Cdo, Cdc}
use Rattle.css_tokens.specs.declared.component.Component.{Component}
use Rattle.css_tokens.specs.Piece.{Word, spelled}
use Rattle.css_tokens.specs.Again.{takes}
use Rattle.css_tokens.specs.Trees.{words_all}

-- white space?
abbrev pub is_white : Kind → Bool
is_white White = true
is_white Comment = false
is_white Ident = false
is_white Function = false
is_white Url = false
is_white At = false
is_white Hash = false
is_white String = false
is_white Number = false
is_white Percentage = false
is_white Dimension = false
is_white Colon = false
is_white Semicolon = false
is_white Comma = false
is_white Open = false
is_white Close = false
is_white Delim = false
is_white Cdo = false
is_white Cdc = false

-- white space or a comment?
abbrev pub is_gap : Kind → Bool
is_gap White = true
is_gap Comment = true
is_gap Ident = false
is_gap Function = false
is_gap Url = false
is_gap At = false
is_gap Hash = false
is_gap String = false
is_gap Number = false
is_gap Percentage = false
is_gap Dimension = false
is_gap Colon = false
is_gap Semicolon = false
is_gap Comma = false
is_gap Open = false
is_gap Close = false
is_gap Delim = false
is_gap Cdo = false
is_gap Cdc = false

-- does the word end in an escape that takes a space which follows it?
abbrev pub takes_space : Word → Bool
takes_space w = not (is_gap w.kind) && takes w (codes " ")

-- white space as one space, a comment as `/**/`, any other text as it is
abbrev pub short_text : Kind → List ℕ → List ℕ
short_text kind text = if is_white kind then codes " " else (if is_gap kind then codes "/**/" else text)

-- the word with white space as one space, and a comment as `/**/`
abbrev pub short_word : Word → Word
short_word w = record { kind = w.kind; text = short_text w.kind w.text }

-- Of two gaps in a row one is left: the white space, where one of them is.
abbrev pub before_run : {X : Type 0} → (X → Kind) → X → List X → List X
before_run kind x [] = x ∷ []
before_run kind x (y ∷ ys) = if is_gap (kind x) && is_gap (kind y) then (if is_white (kind x) then x else y) ∷ ys else x ∷ y ∷ ys

-- Each run of gaps as one of them: a white space, where one of them is.
abbrev pub single_gaps : {X : Type 0} → (X → Kind) → List X → List X
single_gaps kind [] = []
single_gaps kind (x ∷ xs) = before_run kind x (single_gaps kind xs)

-- no gap at the start
abbrev pub after_gap : {X : Type 0} → (X → Kind) → List X → List X
after_gap kind [] = []
after_gap kind (x ∷ xs) = if is_gap (kind x) then xs else x ∷ xs

-- no gap at the end
abbrev pub before_gap : {X : Type 0} → (X → Kind) → List X → List X
before_gap kind [] = []
before_gap kind (x ∷ []) = if is_gap (kind x) then [] else x ∷ []
before_gap kind (x ∷ y ∷ ys) = x ∷ before_gap kind (y ∷ ys)

-- the kind of a word
abbrev pub word_kind : Word → Kind
word_kind w = w.kind

-- what follows an element that takes a space, or does not: where it does, a comment stands before white space
abbrev pub behind_taking : {X : Type 0} → (X → Kind) → X → Bool → List X → List X
behind_taking kind comment false ys = ys
behind_taking kind comment true [] = []
behind_taking kind comment true (y ∷ ys) = if is_white (kind y) then comment ∷ y ∷ ys else y ∷ ys

-- Each element that takes a space is parted by a comment from white space behind it.
abbrev pub parted : {X : Type 0} → (X → Kind) → X → (X → Bool) → List X → List X
parted kind comment takes [] = []
parted kind comment takes (x ∷ xs) = x ∷ behind_taking kind comment (takes x) (parted kind comment takes xs)

-- the comment that parts words
abbrev pub parting_word : Word
parting_word = record { kind = Comment; text = codes "/**/" }

-- words with each run of white space and comments as one space where it has white space, else as `/**/`, and at both ends as nothing
abbrev pub shortened_words : List Word → List Word
shortened_words ws = before_gap word_kind (after_gap word_kind (single_gaps word_kind (map short_word ws)))

-- The words of a value as they print: shortened, and with a comment before the white space that an escape would take.
abbrev pub printed_words : List Word → List Word
printed_words ws = parted word_kind parting_word takes_space (shortened_words ws)

-- the words that the components of a value print as
abbrev pub value_words : List Component → List Word
value_words v = printed_words (words_all v)

-- the text that a value prints as
abbrev pub value_text : List Component → List ℕ
value_text v = spelled (value_words v)
