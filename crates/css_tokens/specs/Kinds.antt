-- The table of the kinds of tokens (CSS Syntax 3, section 4).
use Rattle.std.specs.Prelude.{ℕ, nat_eq, List, [], ◌∷◌, Bool, false, ◌&&◌, not, Option, Some, None, if◌then◌else◌}
use Rattle.css_tokens.specs.declared.kind.Kind.{Kind}
use Rattle.css_tokens.specs.declared.kind.Kind.TheVariants as kind
use Rattle.css_tokens.specs.declared.class.Class.{Class}
use Rattle.css_tokens.specs.declared.class.Class.TheVariants as class
use Rattle.std.specs.List.{list_any}
use Rattle.css_tokens.specs.Characters.{is_class, white, name_start, name, sign, newline, hex, escaped, in_string, in_url, delim}
use Rattle.css_tokens.specs.Patterns.{Pattern, One, Many, Closed, Star, UpTo, ◌∣◌, ◌⋅◌, optional, some, fits}

-- one character of this class
abbrev pub the : Class → Pattern
the c = One (c ∷ [])

-- white space: one or more characters of it
abbrev pub white_space : Pattern
white_space = some white

-- a comment: `/*`, up to and with the first `*/`
abbrev pub comment : Pattern
comment = the class.Slash ⋅ the class.Star ⋅ Closed false

-- a newline: CR LF, LF, CR or FF
abbrev pub new_line : Pattern
new_line = (the class.Return ⋅ the class.Feed) ∣ One newline

-- one white space, where CR LF counts as one
abbrev pub one_white : Pattern
one_white = (the class.Return ⋅ the class.Feed) ∣ One white

-- an escape: `\`, and one to six hexadecimal digits and at most one white space, or another character that is no newline
abbrev pub escape : Pattern
escape = the class.Backslash ⋅ ((One hex ⋅ UpTo 5 hex ⋅ optional one_white) ∣ One escaped)

-- a name start, and a character of a name, or an escape
abbrev pub start_part : Pattern
start_part = One name_start ∣ escape

abbrev pub name_part : Pattern
name_part = One name ∣ escape

-- an identifier: `--` and any characters of names, or an optional `-`, a name start and any characters of names
abbrev pub ident : Pattern
ident = (the class.Minus ⋅ the class.Minus ⋅ Star name_part) ∣ (optional (the class.Minus) ⋅ start_part ⋅ Star name_part)

-- a function token: an identifier and `(`
abbrev pub function : Pattern
function = ident ⋅ the class.OpenParen

-- an at-keyword: `@` and an identifier
abbrev pub at_keyword : Pattern
at_keyword = the class.At ⋅ ident

-- a hash: `#` and one or more characters of names
abbrev pub hash : Pattern
hash = the class.Hash ⋅ name_part ⋅ Star name_part

-- a string between these quotes
abbrev pub quoted : Class → Pattern
quoted quote = the quote ⋅ Star (One (in_string quote) ∣ escape ∣ (the class.Backslash ⋅ new_line)) ⋅ the quote

-- a string, in double or in single quotes
abbrev pub string : Pattern
string = quoted class.DoubleQuote ∣ quoted class.SingleQuote

-- one or more digits
abbrev pub digits : Pattern
digits = some (class.Digit ∷ [])

-- the fraction of a number: `.` and digits
abbrev pub fraction : Pattern
fraction = the class.Dot ⋅ digits

-- the exponent of a number: `e` or `E`, an optional sign and digits
abbrev pub exponent : Pattern
exponent = the class.Exponent ⋅ optional (One sign) ⋅ digits

-- a number: an optional sign, digits with an optional fraction or a fraction alone, and an optional exponent
abbrev pub number : Pattern
number = optional (One sign) ⋅ ((digits ⋅ optional fraction) ∣ fraction) ⋅ optional exponent

-- a percentage: a number and `%`
abbrev pub percentage : Pattern
percentage = number ⋅ the class.Percent

-- a dimension: a number and an identifier as its unit
abbrev pub dimension : Pattern
dimension = number ⋅ ident

-- the CDO token `<!--`
abbrev pub cdo : Pattern
cdo = the class.Less ⋅ the class.Bang ⋅ the class.Minus ⋅ the class.Minus

-- the CDC token `-->`
abbrev pub cdc : Pattern
cdc = the class.Minus ⋅ the class.Minus ⋅ the class.Greater

-- what follows the `(` of a Url: its text with optional white space round it, and `)`
abbrev pub url_inside : Pattern
url_inside = Many white ⋅ Star (One in_url ∣ escape) ⋅ Many white ⋅ the class.CloseParen

-- A row of the table: what spells the kind, and the characters of which none may follow.
pub record Row : Type 0 where
  pub kind : Kind
  pub pattern : Pattern
  pub barred : List Class

-- a row of the table that bars no character
abbrev pub row : Kind → Pattern → Row
row kind pattern = record { kind = kind; pattern = pattern; barred = [] }

-- The table. The first row that fits names the kind: where Number and Dimension spell the same text it is a Number.
abbrev pub table : List Row
table =
    row kind.White white_space
    ∷ row kind.Comment comment
    ∷ row kind.Ident ident
    ∷ row kind.Function function
    ∷ row kind.At at_keyword
    ∷ row kind.Hash hash
    ∷ row kind.String string
    ∷ row kind.Number number
    ∷ row kind.Percentage percentage
    ∷ row kind.Dimension dimension
    ∷ row kind.Colon (the class.Colon)
    ∷ row kind.Semicolon (the class.Semicolon)
    ∷ row kind.Comma (the class.Comma)
    ∷ row kind.Open (One (class.OpenParen ∷ class.Open ∷ []))
    ∷ row kind.Close (One (class.CloseParen ∷ class.Close ∷ []))
    ∷ row kind.Delim (One delim)
    ∷ record { kind = kind.Delim; pattern = the class.Slash; barred = class.Star ∷ [] }
    ∷ row kind.Cdo cdo
    ∷ row kind.Cdc cdc
    ∷ []

-- the inside of a Url, as a table of its own
abbrev pub url_table : List Row
url_table = row kind.Url url_inside ∷ []

-- does the text begin with a character of this class?
abbrev pub starts : List Class → Class → Bool
starts [] c = false
starts (x ∷ s) c = is_class c x

-- does the text begin with a character of one of these classes?
abbrev pub begins : List Class → List Class → Bool
begins set s = list_any (starts s) set

-- the kind of a text that stands before the text after
abbrev pub kind_of : List Row → List Class → List Class → Option Kind
kind_of [] text after = None
kind_of (r ∷ rows) text after = if fits r.pattern text && not (begins r.barred after) then Some r.kind else kind_of rows text after

-- the place of a kind among all kinds
abbrev pub place_of_kind : Kind → ℕ
place_of_kind kind.White = 0
place_of_kind kind.Comment = 1
place_of_kind kind.Ident = 2
place_of_kind kind.Function = 3
place_of_kind kind.Url = 4
place_of_kind kind.At = 5
place_of_kind kind.Hash = 6
place_of_kind kind.String = 7
place_of_kind kind.Number = 8
place_of_kind kind.Percentage = 9
place_of_kind kind.Dimension = 10
place_of_kind kind.Colon = 11
place_of_kind kind.Semicolon = 12
place_of_kind kind.Comma = 13
place_of_kind kind.Open = 14
place_of_kind kind.Close = 15
place_of_kind kind.Delim = 16
place_of_kind kind.Cdo = 17
place_of_kind kind.Cdc = 18

-- are the two kinds the same?
abbrev pub is_kind : Kind → Kind → Bool
is_kind a b = nat_eq (place_of_kind a) (place_of_kind b)
