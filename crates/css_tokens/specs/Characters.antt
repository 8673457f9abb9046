-- The classes of characters that the tokens of CSS tell apart (CSS Syntax 3, section 4.2).
use Rattle.std.specs.Prelude.{ℕ, List, [], ◌∷◌, ◌++◌, Bool, ◌||◌, ◌&&◌, not, filter, nat_eq, nat_le, nat_lt, if◌then◌else◌}
use Rattle.std.specs.List.{list_any}
use Rattle.css_tokens.specs.declared.class.Class.{Class}
use Rattle.css_tokens.specs.declared.class.Class.TheVariants as class

-- is the byte between the first and the last, both included?
abbrev pub is_from_to : ℕ → ℕ → ℕ → Bool
is_from_to first last b = nat_le first b && nat_le b last

-- the class of a byte that is none of the ASCII letters and digits, `_`, white space, `"`, `'`, `#`, `*`, `+`, `-`, `.` and `/`
abbrev pub mark_of : ℕ → Class
mark_of b =
    if nat_eq b 60 then class.Less
    else (if nat_eq b 62 then class.Greater
    else (if nat_eq b 33 then class.Bang
    else (if nat_eq b 64 then class.At
    else (if nat_eq b 37 then class.Percent
    else (if nat_eq b 58 then class.Colon
    else (if nat_eq b 59 then class.Semicolon
    else (if nat_eq b 44 then class.Comma
    else (if nat_eq b 40 then class.OpenParen
    else (if nat_eq b 91 || nat_eq b 123 then class.Open
    else (if nat_eq b 41 then class.CloseParen
    else (if nat_eq b 93 || nat_eq b 125 then class.Close
    else (if nat_eq b 92 then class.Backslash
    else (if nat_le 128 b then class.High
    else (if nat_lt b 32 || nat_eq b 127 then class.Control
    else class.Symbol))))))))))))))

-- the class of a byte
abbrev pub class_of : ℕ → Class
class_of b =
    if nat_eq b 32 || nat_eq b 9 then class.Blank
    else (if nat_eq b 10 then class.Feed
    else (if nat_eq b 13 then class.Return
    else (if nat_eq b 12 then class.FormFeed
    else (if nat_eq b 34 then class.DoubleQuote
    else (if nat_eq b 39 then class.SingleQuote
    else (if nat_eq b 35 then class.Hash
    else (if nat_eq b 42 then class.Star
    else (if nat_eq b 43 then class.Plus
    else (if nat_eq b 45 then class.Minus
    else (if nat_eq b 46 then class.Dot
    else (if nat_eq b 47 then class.Slash
    else (if is_from_to 48 57 b then class.Digit
    else (if nat_eq b 101 || nat_eq b 69 then class.Exponent
    else (if is_from_to 97 102 b || is_from_to 65 70 b then class.Hex
    else (if is_from_to 97 122 b || is_from_to 65 90 b || nat_eq b 95 then class.Letter
    else mark_of b)))))))))))))))

-- all classes
abbrev pub classes : List Class
classes =
    class.Blank ∷ class.Feed ∷ class.Return ∷ class.FormFeed ∷ class.DoubleQuote ∷ class.SingleQuote ∷ class.Hash ∷ class.Star ∷ class.Plus ∷ class.Minus ∷ class.Dot ∷ class.Slash ∷ class.Digit ∷ class.Exponent ∷ class.Hex ∷ class.Letter ∷ class.Less ∷ class.Greater ∷ class.Bang ∷ class.At ∷ class.Percent ∷ class.Colon ∷ class.Semicolon ∷ class.Comma ∷ class.OpenParen ∷ class.Open ∷ class.CloseParen ∷ class.Close ∷ class.Symbol ∷ class.Backslash ∷ class.High ∷ class.Control ∷ []

-- the place of a class among them
abbrev pub place_of : Class → ℕ
place_of class.Blank = 0
place_of class.Feed = 1
place_of class.Return = 2
place_of class.FormFeed = 3
place_of class.DoubleQuote = 4
place_of class.SingleQuote = 5
place_of class.Hash = 6
place_of class.Star = 7
place_of class.Plus = 8
place_of class.Minus = 9
place_of class.Dot = 10
place_of class.Slash = 11
place_of class.Digit = 12
place_of class.Exponent = 13
place_of class.Hex = 14
place_of class.Letter = 15
place_of class.Less = 16
place_of class.Greater = 17
place_of class.Bang = 18
place_of class.At = 19
place_of class.Percent = 20
place_of class.Colon = 21
place_of class.Semicolon = 22
place_of class.Comma = 23
place_of class.OpenParen = 24
place_of class.Open = 25
place_of class.CloseParen = 26
place_of class.Close = 27
place_of class.Symbol = 28
place_of class.Backslash = 29
place_of class.High = 30
place_of class.Control = 31

-- are the two classes the same?
abbrev pub is_class : Class → Class → Bool
is_class a b = nat_eq (place_of a) (place_of b)

-- is the class in the set?
abbrev pub has : List Class → Class → Bool
has set c = list_any (is_class c) set

-- every class but these
abbrev pub other_than : List Class → List Class
other_than set = filter (λ c. not (has set c)) classes

-- newlines: LF, CR and FF
abbrev pub newline : List Class
newline = class.Feed ∷ class.Return ∷ class.FormFeed ∷ []

-- white space: space, tab, LF, CR and FF
abbrev pub white : List Class
white = class.Blank ∷ newline

-- the hexadecimal digits
abbrev pub hex : List Class
hex = class.Digit ∷ class.Exponent ∷ class.Hex ∷ []

-- the characters that a name begins with: letters, `_`, and each byte of a character from U+0080 on (the hexadecimal letters are classes of their own)
abbrev pub name_start : List Class
name_start = class.Exponent ∷ class.Hex ∷ class.Letter ∷ class.High ∷ []

-- the characters of names: those that begin one, digits and `-`
abbrev pub name : List Class
name = class.Exponent ∷ class.Hex ∷ class.Letter ∷ class.High ∷ class.Digit ∷ class.Minus ∷ []

-- the signs of numbers: `+` and `-`
abbrev pub sign : List Class
sign = class.Plus ∷ class.Minus ∷ []

-- what a text may hold: every class but the control characters
abbrev pub in_text : List Class
in_text = other_than (class.Control ∷ [])

-- what may stand between these quotes: neither the quote nor a newline, `\` or a control character
abbrev pub in_string : Class → List Class
in_string quote = other_than (quote ∷ class.Backslash ∷ class.Control ∷ newline)

-- what may stand after the `\` of an escape without digits
abbrev pub escaped : List Class
escaped = other_than (class.Control ∷ newline ++ hex)

-- what may stand in the text of a Url: neither white space nor a quote, a parenthesis, `\` or a control character
abbrev pub in_url : List Class
in_url = other_than (class.Blank ∷ class.Feed ∷ class.Return ∷ class.FormFeed ∷ class.DoubleQuote ∷ class.SingleQuote ∷ class.OpenParen ∷ class.CloseParen ∷ class.Backslash ∷ class.Control ∷ [])

-- the characters that are a Delim by themselves, `/` aside
abbrev pub delim : List Class
delim = class.Bang ∷ class.Hash ∷ class.Percent ∷ class.Star ∷ class.Plus ∷ class.Minus ∷ class.Dot ∷ class.Less ∷ class.Greater ∷ class.At ∷ class.Symbol ∷ []
