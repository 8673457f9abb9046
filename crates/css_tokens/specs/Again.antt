-- What lets a text be read again as the words that it was made of (CSS Syntax 3, section 10: reading what was serialized gives it back).
use Rattle.std.specs.Prelude.{ℕ, List, [], ◌∷◌, ◌++◌, ◌≡◌, Bool, true, false, ◌||◌, ◌&&◌, not, codes}
use Rattle.std.specs.List.{list_any}
use Rattle.css_tokens.specs.declared.kind.Kind.{Kind}
use Rattle.css_tokens.specs.declared.kind.Kind.TheVariants as kind
use Rattle.css_tokens.specs.declared.class.Class.{Class}
use Rattle.css_tokens.specs.declared.class.Class.TheVariants as class
use Rattle.css_tokens.specs.Characters.{class_of, has, is_class, name, other_than, white}
use Rattle.css_tokens.specs.Kinds.{starts, begins, is_kind, kind_of, table}
use Rattle.css_tokens.specs.Piece.{Word}
use Rattle.css_tokens.specs.Tokens.{First, classes_of, names, quote_follows}

-- the word is the first token of the text that it makes with what follows it
abbrev pub StaysFirst : Word → List ℕ → Type 0
StaysFirst w rest = First (w.text ++ rest) w

-- the characters that no token goes on with but white space, a comment, a string or a Url: the stops
abbrev pub stops : List Class
stops = other_than (name ++ class.Dot ∷ class.Plus ∷ class.Percent ∷ class.Bang ∷ class.Greater ∷ class.OpenParen ∷ class.Star ∷ class.Backslash ∷ [])

-- is the text empty, or does it begin with a stop, or with a `!` and no `-` behind it?
abbrev pub is_stop : List Class → Bool
is_stop [] = true
is_stop (x ∷ s) = has stops x || (is_class class.Bang x && not (starts s class.Minus))

-- is there a `\` at the end that nothing stands behind? The flag says that one stands right before the text.
abbrev pub is_odd : Bool → List Class → Bool
is_odd begun [] = begun
is_odd begun (x ∷ s) = is_odd (is_class class.Backslash x && not begun) s

-- the two texts are the same up to a stop of each, and this is no part of an escape that is begun before it
pub record Alike (a b : List ℕ) : Type 0 where
  pub same : List ℕ
  pub left : List ℕ
  pub right : List ℕ
  pub whole_left : a ≡ same ++ left
  pub whole_right : b ≡ same ++ right
  pub even : is_odd false (classes_of same) ≡ false
  pub stop_left : is_stop (classes_of left) ≡ true
  pub stop_right : is_stop (classes_of right) ≡ true

-- where a quote comes after the white space of the one, so it does in the other
abbrev pub KeepsQuote : List ℕ → List ℕ → Type 0
KeepsQuote a b = quote_follows (classes_of a) ≡ true → quote_follows (classes_of b) ≡ true

-- is it neither white space nor a comment?
abbrev pub is_solid : Kind → Bool
is_solid k = not (is_kind k kind.White) && not (is_kind k kind.Comment)

-- Does the word go on with the white space that the text begins with? It does where it ends in an escape of digits: with
-- any white space, and where the escape has its CR, with an LF. The word and that character then spell the word's kind.
abbrev pub takes : Word → List ℕ → Bool
takes w [] = false
takes w (b ∷ text) = has white (class_of b) && names w.kind (kind_of table (classes_of (w.text ++ b ∷ [])) [])

-- white space, a comment, a semicolon, or what closes a block: what may stand behind a value
abbrev pub is_end_kind : Kind → Bool
is_end_kind k = list_any (is_kind k) (kind.White ∷ kind.Comment ∷ kind.Semicolon ∷ kind.Close ∷ [])

-- the word of this kind and this text
abbrev pub word_from : Kind → List ℕ → Word
word_from k text = record { kind = k; text = text }

-- words that stay the first token whatever text follows them
abbrev pub marks : List Word
marks =
    word_from kind.Open (codes "{")
    ∷ word_from kind.Close (codes "}")
    ∷ word_from kind.Open (codes "(")
    ∷ word_from kind.Close (codes ")")
    ∷ word_from kind.Open (codes "[")
    ∷ word_from kind.Close (codes "]")
    ∷ word_from kind.Colon (codes ":")
    ∷ word_from kind.Semicolon (codes ";")
    ∷ word_from kind.Comma (codes ",")
    ∷ word_from kind.Delim (codes ">")
    ∷ word_from kind.Delim (codes "*")
    ∷ word_from kind.Delim (codes "~")
    ∷ word_from kind.Delim (codes "!")
    ∷ word_from kind.Delim (codes "&")
    ∷ word_from kind.Delim (codes "=")
    ∷ word_from kind.Delim (codes "|")
    ∷ word_from kind.Delim (codes "^")
    ∷ word_from kind.Delim (codes "$")
    ∷ word_from kind.Comment (codes "/**/")
    ∷ []

-- does the text begin with none of these?
abbrev pub begins_none : List Class → List ℕ → Bool
begins_none set text = not (begins set (classes_of text))

-- what makes a name longer, white space that it takes aside: name characters and escapes
abbrev pub more_name : List Class
more_name = name ++ class.Backslash ∷ []

-- what makes a name longer, or a Function or `-->` of it
abbrev pub after_ident : List Class
after_ident = more_name ++ class.OpenParen ∷ class.Greater ∷ []

-- the same, without the `>` of `-->`
abbrev pub after_name : List Class
after_name = more_name ++ class.OpenParen ∷ []

-- the digits: what makes a number of a `.` before it
abbrev pub digit : List Class
digit = class.Digit ∷ []

-- the digits and `.`: what may make a number of a `+` before it
abbrev pub digit_or_dot : List Class
digit_or_dot = class.Digit ∷ class.Dot ∷ []

-- `*`: what makes a comment of a `/` before it
abbrev pub star : List Class
star = class.Star ∷ []

-- `!`: what may make `<!--` of a `<` before it
abbrev pub bang : List Class
bang = class.Bang ∷ []
