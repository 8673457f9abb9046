-- The machine that reads one token: its states, as what is left of the rows of the table once a text has been read.
use Rattle.std.specs.Prelude.{suc, zero, nat_eq, List, [], ◌∷◌, Bool, true, false, ◌||◌, ◌&&◌, ◌++◌, not, Option, Some, None, if◌then◌else◌}
use lib.Pointwise.{pointwise}
use Rattle.css_tokens.specs.declared.kind.Kind.{Kind}
use Rattle.css_tokens.specs.declared.kind.Kind.TheVariants as kind
use Rattle.css_tokens.specs.declared.class.Class.{Class}
use Rattle.css_tokens.specs.declared.class.Class.TheVariants as class
use Rattle.css_tokens.specs.declared.machine.State.{State}
use Rattle.css_tokens.specs.declared.machine.Holder.{Holder}
use Rattle.css_tokens.specs.declared.machine.Holder.TheVariants as holder
use Rattle.css_tokens.specs.declared.machine.Escape.{Escape}
use Rattle.css_tokens.specs.declared.machine.Escape.TheVariants as escape
use Rattle.css_tokens.specs.declared.machine.State.TheVariants as state
use Rattle.css_tokens.specs.Characters.{has, is_class, in_text, white, newline, hex}
use Rattle.css_tokens.specs.Patterns.{Pattern, Never, Empty, One, Many, Either, Then, Closed, Star, UpTo, fits}
use Rattle.css_tokens.specs.Kinds.{Row, row, table, url_table, begins}

-- do the two sets list the same classes in the same order?
abbrev pub is_set : List Class → List Class → Bool
is_set a b = pointwise is_class a b

-- are the patterns written alike?
abbrev pub is_pattern : Pattern → Pattern → Bool
is_pattern Never Never = true
is_pattern Empty Empty = true
is_pattern (One a) (One b) = is_set a b
is_pattern (Many a) (Many b) = is_set a b
is_pattern (Either p q) (Either r s) = is_pattern p r && is_pattern q s
is_pattern (Then p q) (Then r s) = is_pattern p r && is_pattern q s
is_pattern (Closed true) (Closed true) = true
is_pattern (Closed false) (Closed false) = true
is_pattern (Star p) (Star q) = is_pattern p q
is_pattern (UpTo n a) (UpTo m b) = nat_eq n m && is_set a b
is_pattern p q = false

-- is q the pattern p, or one of its alternatives?
abbrev pub holds : Pattern → Pattern → Bool
holds (Either a b) q = is_pattern (Either a b) q || (holds a q || holds b q)
holds Never q = is_pattern Never q
holds Empty q = is_pattern Empty q
holds (One a) q = is_pattern (One a) q
holds (Many a) q = is_pattern (Many a) q
holds (Then a b) q = is_pattern (Then a b) q || (fits a [] && holds b q)
holds (Closed b) q = is_pattern (Closed b) q
holds (Star a) q = is_pattern (Star a) q
holds (UpTo n a) q = is_pattern (UpTo n a) q

-- is it the pattern `Never`?
abbrev pub is_never : Pattern → Bool
is_never Never = true
is_never Empty = false
is_never (One a) = false
is_never (Many a) = false
is_never (Either p q) = false
is_never (Then p q) = false
is_never (Closed b) = false
is_never (Star p) = false
is_never (UpTo n a) = false

-- is it the pattern `Empty`?
abbrev pub is_blank : Pattern → Bool
is_blank Never = false
is_blank Empty = true
is_blank (One a) = false
is_blank (Many a) = false
is_blank (Either p q) = false
is_blank (Then p q) = false
is_blank (Closed b) = false
is_blank (Star p) = false
is_blank (UpTo n a) = false

-- a pattern that fits what p fits and what q fits
abbrev pub either : Pattern → Pattern → Pattern
either p q = if is_never p then q else (if is_never q || holds p q then p else Either p q)

-- a pattern that fits a text of p and one of q right behind it
abbrev pub followed : Pattern → Pattern → Pattern
followed p q = if is_never p then Never else (if is_blank p then q else Then p q)

-- what is left of a pattern once a character has been read (a Brzozowski derivative)
abbrev pub derive : Class → Pattern → Pattern
derive x Never = Never
derive x Empty = Never
derive x (One set) = if has set x then Empty else Never
derive x (Many set) = if has set x then Many set else Never
derive x (Either p q) = either (derive x p) (derive x q)
derive x (Then p q) = either (followed (derive x p) q) (if fits p [] then derive x q else Never)
derive x (Star p) = followed (derive x p) (Star p)
derive x (UpTo zero set) = Never
derive x (UpTo (suc n) set) = if has set x then UpTo n set else Never
derive x (Closed starred) = if starred && is_class x class.Slash then Empty else (if has in_text x then Closed (is_class x class.Star) else Never)

-- what is left of a table once a character has been read, without the rows of which `Never` is left
abbrev pub derived : Class → List Row → List Row
derived x [] = []
derived x (r ∷ rows) =
    let p = derive x r.pattern in
    if is_never p then derived x rows else record { kind = r.kind; pattern = p; barred = r.barred } ∷ derived x rows

-- what is left of a table once these characters have been read
abbrev pub after_all : List Class → List Row → List Row
after_all [] rows = rows
after_all (x ∷ s) rows = after_all s (derived x rows)

-- a way to what an escape stands in
abbrev pub path_to : Holder → List Class
path_to holder.Name = class.Letter ∷ []
path_to holder.AtName = class.At ∷ class.Letter ∷ []
path_to holder.HashName = class.Hash ∷ class.Letter ∷ []
path_to holder.Unit = class.Digit ∷ class.Letter ∷ []
path_to holder.DoubleQuoted = class.DoubleQuote ∷ []
path_to holder.SingleQuoted = class.SingleQuote ∷ []
path_to holder.UrlText = class.Letter ∷ []

-- and from there into the escape
abbrev pub path_in : Escape → List Class
path_in escape.Begun = class.Backslash ∷ []
path_in escape.Hex1 = class.Backslash ∷ class.Hex ∷ []
path_in escape.Hex2 = class.Backslash ∷ class.Hex ∷ class.Hex ∷ []
path_in escape.Hex3 = class.Backslash ∷ class.Hex ∷ class.Hex ∷ class.Hex ∷ []
path_in escape.Hex4 = class.Backslash ∷ class.Hex ∷ class.Hex ∷ class.Hex ∷ class.Hex ∷ []
path_in escape.Hex5 = class.Backslash ∷ class.Hex ∷ class.Hex ∷ class.Hex ∷ class.Hex ∷ class.Hex ∷ []
path_in escape.Hex6 = class.Backslash ∷ class.Hex ∷ class.Hex ∷ class.Hex ∷ class.Hex ∷ class.Hex ∷ class.Hex ∷ []
path_in escape.Return = class.Backslash ∷ class.Hex ∷ class.Return ∷ []

-- the table that reads it
abbrev pub table_of : Holder → List Row
table_of holder.UrlText = url_table
table_of h = table

-- what is left of the table in each state
abbrev pub rows : State → List Row
rows state.Start = after_all ([]) table
rows state.White = after_all (class.Blank ∷ []) table
rows state.Slash = after_all (class.Slash ∷ []) table
rows state.Comment = after_all (class.Slash ∷ class.Star ∷ []) table
rows state.CommentStar = after_all (class.Slash ∷ class.Star ∷ class.Star ∷ []) table
rows state.DoubleQuoted = after_all (class.DoubleQuote ∷ []) table
rows state.SingleQuoted = after_all (class.SingleQuote ∷ []) table
rows state.Less = after_all (class.Less ∷ []) table
rows state.LessBang = after_all (class.Less ∷ class.Bang ∷ []) table
rows state.LessBangMinus = after_all (class.Less ∷ class.Bang ∷ class.Minus ∷ []) table
rows state.Minus = after_all (class.Minus ∷ []) table
rows state.MinusMinus = after_all (class.Minus ∷ class.Minus ∷ []) table
rows state.Name = after_all (class.Letter ∷ []) table
rows state.At = after_all (class.At ∷ []) table
rows state.AtMinus = after_all (class.At ∷ class.Minus ∷ []) table
rows state.AtName = after_all (class.At ∷ class.Letter ∷ []) table
rows state.Hash = after_all (class.Hash ∷ []) table
rows state.HashName = after_all (class.Hash ∷ class.Letter ∷ []) table
rows state.Plus = after_all (class.Plus ∷ []) table
rows state.Dot = after_all (class.Dot ∷ []) table
rows state.Point = after_all (class.Plus ∷ class.Dot ∷ []) table
rows state.Integer = after_all (class.Digit ∷ []) table
rows state.Fraction = after_all (class.Dot ∷ class.Digit ∷ []) table
rows state.Exponent = after_all (class.Digit ∷ class.Exponent ∷ []) table
rows state.ExponentPlus = after_all (class.Digit ∷ class.Exponent ∷ class.Plus ∷ []) table
rows state.ExponentMinus = after_all (class.Digit ∷ class.Exponent ∷ class.Minus ∷ []) table
rows state.ExponentDigits = after_all (class.Digit ∷ class.Exponent ∷ class.Digit ∷ []) table
rows state.ExponentDash = after_all (class.Digit ∷ class.Exponent ∷ class.Digit ∷ class.Minus ∷ []) table
rows state.PlusDigits = after_all (class.Digit ∷ class.Exponent ∷ class.Plus ∷ class.Digit ∷ []) table
rows state.UnitMinus = after_all (class.Digit ∷ class.Minus ∷ []) table
rows state.Unit = after_all (class.Digit ∷ class.Letter ∷ []) table
rows state.UrlStart = after_all ([]) url_table
rows state.UrlWhite = after_all (class.Blank ∷ []) url_table
rows state.UrlText = after_all (class.Letter ∷ []) url_table
rows state.UrlAfter = after_all (class.Letter ∷ class.Blank ∷ []) url_table
rows (state.Escaped h e) = after_all (path_to h ++ path_in e) (table_of h)
rows (state.End k) = row k Empty ∷ []
rows state.Dead = []

-- the state after the first character of a token
abbrev pub from_start : Class → State
from_start class.Blank = state.White
from_start class.Feed = state.White
from_start class.Return = state.White
from_start class.FormFeed = state.White
from_start class.DoubleQuote = state.DoubleQuoted
from_start class.SingleQuote = state.SingleQuoted
from_start class.Hash = state.Hash
from_start class.Plus = state.Plus
from_start class.Minus = state.Minus
from_start class.Dot = state.Dot
from_start class.Slash = state.Slash
from_start class.Digit = state.Integer
from_start class.Exponent = state.Name
from_start class.Letter = state.Name
from_start class.Hex = state.Name
from_start class.High = state.Name
from_start class.Less = state.Less
from_start class.At = state.At
from_start class.Colon = state.End kind.Colon
from_start class.Semicolon = state.End kind.Semicolon
from_start class.Comma = state.End kind.Comma
from_start class.OpenParen = state.End kind.Open
from_start class.Open = state.End kind.Open
from_start class.CloseParen = state.End kind.Close
from_start class.Close = state.End kind.Close
from_start class.Star = state.End kind.Delim
from_start class.Greater = state.End kind.Delim
from_start class.Bang = state.End kind.Delim
from_start class.Percent = state.End kind.Delim
from_start class.Symbol = state.End kind.Delim
from_start class.Backslash = state.Escaped holder.Name escape.Begun
from_start c = state.Dead

-- the state after a further character of white space, a comment, a string or `<!--`
abbrev pub from_text : State → Class → State
from_text state.White class.Blank = state.White
from_text state.White class.Feed = state.White
from_text state.White class.Return = state.White
from_text state.White class.FormFeed = state.White
from_text state.White c = state.Dead
from_text state.Slash class.Star = state.Comment
from_text state.Slash c = state.Dead
from_text state.Comment class.Star = state.CommentStar
from_text state.Comment class.Control = state.Dead
from_text state.Comment c = state.Comment
from_text state.CommentStar class.Slash = state.End kind.Comment
from_text state.CommentStar class.Star = state.CommentStar
from_text state.CommentStar class.Control = state.Dead
from_text state.CommentStar c = state.Comment
from_text state.DoubleQuoted class.DoubleQuote = state.End kind.String
from_text state.DoubleQuoted class.Feed = state.Dead
from_text state.DoubleQuoted class.Return = state.Dead
from_text state.DoubleQuoted class.FormFeed = state.Dead
from_text state.DoubleQuoted class.Backslash = state.Escaped holder.DoubleQuoted escape.Begun
from_text state.DoubleQuoted class.Control = state.Dead
from_text state.DoubleQuoted c = state.DoubleQuoted
from_text state.SingleQuoted class.SingleQuote = state.End kind.String
from_text state.SingleQuoted class.Feed = state.Dead
from_text state.SingleQuoted class.Return = state.Dead
from_text state.SingleQuoted class.FormFeed = state.Dead
from_text state.SingleQuoted class.Backslash = state.Escaped holder.SingleQuoted escape.Begun
from_text state.SingleQuoted class.Control = state.Dead
from_text state.SingleQuoted c = state.SingleQuoted
from_text state.Less class.Bang = state.LessBang
from_text state.Less c = state.Dead
from_text state.LessBang class.Minus = state.LessBangMinus
from_text state.LessBang c = state.Dead
from_text state.LessBangMinus class.Minus = state.End kind.Cdo
from_text state.LessBangMinus c = state.Dead
from_text s c = state.Dead

-- the state after a further character of a name, an at-keyword or a hash
abbrev pub from_name : State → Class → State
from_name state.Minus class.Minus = state.MinusMinus
from_name state.Minus class.Exponent = state.Name
from_name state.Minus class.Letter = state.Name
from_name state.Minus class.Hex = state.Name
from_name state.Minus class.High = state.Name
from_name state.Minus class.Digit = state.Integer
from_name state.Minus class.Dot = state.Point
from_name state.Minus class.Backslash = state.Escaped holder.Name escape.Begun
from_name state.Minus c = state.Dead
from_name state.MinusMinus class.Exponent = state.Name
from_name state.MinusMinus class.Letter = state.Name
from_name state.MinusMinus class.Hex = state.Name
from_name state.MinusMinus class.High = state.Name
from_name state.MinusMinus class.Digit = state.Name
from_name state.MinusMinus class.Minus = state.Name
from_name state.MinusMinus class.OpenParen = state.End kind.Function
from_name state.MinusMinus class.Greater = state.End kind.Cdc
from_name state.MinusMinus class.Backslash = state.Escaped holder.Name escape.Begun
from_name state.MinusMinus c = state.Dead
from_name state.Name class.Exponent = state.Name
from_name state.Name class.Letter = state.Name
from_name state.Name class.Hex = state.Name
from_name state.Name class.High = state.Name
from_name state.Name class.Digit = state.Name
from_name state.Name class.Minus = state.Name
from_name state.Name class.OpenParen = state.End kind.Function
from_name state.Name class.Backslash = state.Escaped holder.Name escape.Begun
from_name state.Name c = state.Dead
from_name state.At class.Minus = state.AtMinus
from_name state.At class.Exponent = state.AtName
from_name state.At class.Letter = state.AtName
from_name state.At class.Hex = state.AtName
from_name state.At class.High = state.AtName
from_name state.At class.Backslash = state.Escaped holder.AtName escape.Begun
from_name state.At c = state.Dead
from_name state.AtMinus class.Minus = state.AtName
from_name state.AtMinus class.Exponent = state.AtName
from_name state.AtMinus class.Letter = state.AtName
from_name state.AtMinus class.Hex = state.AtName
from_name state.AtMinus class.High = state.AtName
from_name state.AtMinus class.Backslash = state.Escaped holder.AtName escape.Begun
from_name state.AtMinus c = state.Dead
from_name state.AtName class.Exponent = state.AtName
from_name state.AtName class.Letter = state.AtName
from_name state.AtName class.Hex = state.AtName
from_name state.AtName class.High = state.AtName
from_name state.AtName class.Digit = state.AtName
from_name state.AtName class.Minus = state.AtName
from_name state.AtName class.Backslash = state.Escaped holder.AtName escape.Begun
from_name state.AtName c = state.Dead
from_name state.Hash class.Exponent = state.HashName
from_name state.Hash class.Letter = state.HashName
from_name state.Hash class.Hex = state.HashName
from_name state.Hash class.High = state.HashName
from_name state.Hash class.Digit = state.HashName
from_name state.Hash class.Minus = state.HashName
from_name state.Hash class.Backslash = state.Escaped holder.HashName escape.Begun
from_name state.Hash c = state.Dead
from_name state.HashName class.Exponent = state.HashName
from_name state.HashName class.Letter = state.HashName
from_name state.HashName class.Hex = state.HashName
from_name state.HashName class.High = state.HashName
from_name state.HashName class.Digit = state.HashName
from_name state.HashName class.Minus = state.HashName
from_name state.HashName class.Backslash = state.Escaped holder.HashName escape.Begun
from_name state.HashName c = state.Dead
from_name s c = state.Dead

-- the state after a further character of a number without an exponent, or of a unit
abbrev pub from_number : State → Class → State
from_number state.Plus class.Digit = state.Integer
from_number state.Plus class.Dot = state.Point
from_number state.Plus c = state.Dead
from_number state.Dot class.Digit = state.Fraction
from_number state.Dot c = state.Dead
from_number state.Point class.Digit = state.Fraction
from_number state.Point c = state.Dead
from_number state.Integer class.Digit = state.Integer
from_number state.Integer class.Dot = state.Point
from_number state.Integer class.Exponent = state.Exponent
from_number state.Integer class.Letter = state.Unit
from_number state.Integer class.Hex = state.Unit
from_number state.Integer class.High = state.Unit
from_number state.Integer class.Minus = state.UnitMinus
from_number state.Integer class.Percent = state.End kind.Percentage
from_number state.Integer class.Backslash = state.Escaped holder.Unit escape.Begun
from_number state.Integer c = state.Dead
from_number state.Fraction class.Digit = state.Fraction
from_number state.Fraction class.Exponent = state.Exponent
from_number state.Fraction class.Letter = state.Unit
from_number state.Fraction class.Hex = state.Unit
from_number state.Fraction class.High = state.Unit
from_number state.Fraction class.Minus = state.UnitMinus
from_number state.Fraction class.Percent = state.End kind.Percentage
from_number state.Fraction class.Backslash = state.Escaped holder.Unit escape.Begun
from_number state.Fraction c = state.Dead
from_number state.UnitMinus class.Minus = state.Unit
from_number state.UnitMinus class.Exponent = state.Unit
from_number state.UnitMinus class.Letter = state.Unit
from_number state.UnitMinus class.Hex = state.Unit
from_number state.UnitMinus class.High = state.Unit
from_number state.UnitMinus class.Backslash = state.Escaped holder.Unit escape.Begun
from_number state.UnitMinus c = state.Dead
from_number state.Unit class.Exponent = state.Unit
from_number state.Unit class.Letter = state.Unit
from_number state.Unit class.Hex = state.Unit
from_number state.Unit class.High = state.Unit
from_number state.Unit class.Digit = state.Unit
from_number state.Unit class.Minus = state.Unit
from_number state.Unit class.Backslash = state.Escaped holder.Unit escape.Begun
from_number state.Unit c = state.Dead
from_number s c = state.Dead

-- the state after a further character of a number with an exponent
abbrev pub from_exponent : State → Class → State
from_exponent state.Exponent class.Digit = state.ExponentDigits
from_exponent state.Exponent class.Plus = state.ExponentPlus
from_exponent state.Exponent class.Minus = state.ExponentMinus
from_exponent state.Exponent class.Exponent = state.Unit
from_exponent state.Exponent class.Letter = state.Unit
from_exponent state.Exponent class.Hex = state.Unit
from_exponent state.Exponent class.High = state.Unit
from_exponent state.Exponent class.Backslash = state.Escaped holder.Unit escape.Begun
from_exponent state.Exponent c = state.Dead
from_exponent state.ExponentPlus class.Digit = state.PlusDigits
from_exponent state.ExponentPlus c = state.Dead
from_exponent state.ExponentMinus class.Digit = state.ExponentDigits
from_exponent state.ExponentMinus class.Minus = state.Unit
from_exponent state.ExponentMinus class.Exponent = state.Unit
from_exponent state.ExponentMinus class.Letter = state.Unit
from_exponent state.ExponentMinus class.Hex = state.Unit
from_exponent state.ExponentMinus class.High = state.Unit
from_exponent state.ExponentMinus class.Backslash = state.Escaped holder.Unit escape.Begun
from_exponent state.ExponentMinus c = state.Dead
from_exponent state.ExponentDigits class.Digit = state.ExponentDigits
from_exponent state.ExponentDigits class.Exponent = state.Unit
from_exponent state.ExponentDigits class.Letter = state.Unit
from_exponent state.ExponentDigits class.Hex = state.Unit
from_exponent state.ExponentDigits class.High = state.Unit
from_exponent state.ExponentDigits class.Minus = state.ExponentDash
from_exponent state.ExponentDigits class.Percent = state.End kind.Percentage
from_exponent state.ExponentDigits class.Backslash = state.Escaped holder.Unit escape.Begun
from_exponent state.ExponentDigits c = state.Dead
from_exponent state.ExponentDash class.Exponent = state.Unit
from_exponent state.ExponentDash class.Letter = state.Unit
from_exponent state.ExponentDash class.Hex = state.Unit
from_exponent state.ExponentDash class.High = state.Unit
from_exponent state.ExponentDash class.Digit = state.Unit
from_exponent state.ExponentDash class.Minus = state.Unit
from_exponent state.ExponentDash class.Backslash = state.Escaped holder.Unit escape.Begun
from_exponent state.ExponentDash c = state.Dead
from_exponent state.PlusDigits class.Digit = state.PlusDigits
from_exponent state.PlusDigits class.Exponent = state.Unit
from_exponent state.PlusDigits class.Letter = state.Unit
from_exponent state.PlusDigits class.Hex = state.Unit
from_exponent state.PlusDigits class.High = state.Unit
from_exponent state.PlusDigits class.Minus = state.UnitMinus
from_exponent state.PlusDigits class.Percent = state.End kind.Percentage
from_exponent state.PlusDigits class.Backslash = state.Escaped holder.Unit escape.Begun
from_exponent state.PlusDigits c = state.Dead
from_exponent s c = state.Dead

-- the state after a further character of the inside of a Url
abbrev pub from_url : State → Class → State
from_url state.UrlStart class.Blank = state.UrlWhite
from_url state.UrlStart class.Feed = state.UrlWhite
from_url state.UrlStart class.Return = state.UrlWhite
from_url state.UrlStart class.FormFeed = state.UrlWhite
from_url state.UrlStart class.CloseParen = state.End kind.Url
from_url state.UrlStart class.DoubleQuote = state.Dead
from_url state.UrlStart class.SingleQuote = state.Dead
from_url state.UrlStart class.OpenParen = state.Dead
from_url state.UrlStart class.Backslash = state.Escaped holder.UrlText escape.Begun
from_url state.UrlStart class.Control = state.Dead
from_url state.UrlStart c = state.UrlText
from_url state.UrlWhite class.Blank = state.UrlWhite
from_url state.UrlWhite class.Feed = state.UrlWhite
from_url state.UrlWhite class.Return = state.UrlWhite
from_url state.UrlWhite class.FormFeed = state.UrlWhite
from_url state.UrlWhite class.CloseParen = state.End kind.Url
from_url state.UrlWhite class.DoubleQuote = state.Dead
from_url state.UrlWhite class.SingleQuote = state.Dead
from_url state.UrlWhite class.OpenParen = state.Dead
from_url state.UrlWhite class.Backslash = state.Escaped holder.UrlText escape.Begun
from_url state.UrlWhite class.Control = state.Dead
from_url state.UrlWhite c = state.UrlText
from_url state.UrlText class.Blank = state.UrlAfter
from_url state.UrlText class.Feed = state.UrlAfter
from_url state.UrlText class.Return = state.UrlAfter
from_url state.UrlText class.FormFeed = state.UrlAfter
from_url state.UrlText class.CloseParen = state.End kind.Url
from_url state.UrlText class.DoubleQuote = state.Dead
from_url state.UrlText class.SingleQuote = state.Dead
from_url state.UrlText class.OpenParen = state.Dead
from_url state.UrlText class.Backslash = state.Escaped holder.UrlText escape.Begun
from_url state.UrlText class.Control = state.Dead
from_url state.UrlText c = state.UrlText
from_url state.UrlAfter class.Blank = state.UrlAfter
from_url state.UrlAfter class.Feed = state.UrlAfter
from_url state.UrlAfter class.Return = state.UrlAfter
from_url state.UrlAfter class.FormFeed = state.UrlAfter
from_url state.UrlAfter class.CloseParen = state.End kind.Url
from_url state.UrlAfter c = state.Dead
from_url s c = state.Dead

-- where the escape stands
abbrev pub around : Holder → State
around holder.Name = state.Name
around holder.AtName = state.AtName
around holder.HashName = state.HashName
around holder.Unit = state.Unit
around holder.DoubleQuoted = state.DoubleQuoted
around holder.SingleQuoted = state.SingleQuoted
around holder.UrlText = state.UrlText

-- does it stand in a string?
abbrev pub in_quotes : Holder → Bool
in_quotes holder.DoubleQuoted = true
in_quotes holder.SingleQuoted = true
in_quotes i = false

-- the state after a further character that is no part of the escape
abbrev pub from_around : Holder → Class → State
from_around holder.Name c = from_name state.Name c
from_around holder.AtName c = from_name state.AtName c
from_around holder.HashName c = from_name state.HashName c
from_around holder.Unit c = from_number state.Unit c
from_around holder.DoubleQuoted c = from_text state.DoubleQuoted c
from_around holder.SingleQuoted c = from_text state.SingleQuoted c
from_around holder.UrlText c = from_url state.UrlText c

-- the state after one digit more, or after what ends the escape
abbrev pub from_digits : Holder → State → Class → State
from_digits i more c =
    if has hex c then more
    else (if is_class c class.Return then state.Escaped i escape.Return
    else (if has white c then around i else from_around i c))

-- the state after a further character of an escape
abbrev pub from_escape : Holder → Escape → Class → State
from_escape i escape.Begun c =
    if has hex c then state.Escaped i escape.Hex1
    else (if is_class c class.Control then state.Dead
    else (if has newline c then (if in_quotes i then (if is_class c class.Return then state.Escaped i escape.Return else around i) else state.Dead) else around i))
from_escape i escape.Hex1 c = from_digits i (state.Escaped i escape.Hex2) c
from_escape i escape.Hex2 c = from_digits i (state.Escaped i escape.Hex3) c
from_escape i escape.Hex3 c = from_digits i (state.Escaped i escape.Hex4) c
from_escape i escape.Hex4 c = from_digits i (state.Escaped i escape.Hex5) c
from_escape i escape.Hex5 c = from_digits i (state.Escaped i escape.Hex6) c
from_escape i escape.Hex6 c = if is_class c class.Return then state.Escaped i escape.Return else (if has white c then around i else from_around i c)
from_escape i escape.Return c = if is_class c class.Feed then around i else from_around i c

-- the state after one more character
abbrev pub next : State → Class → State
next state.Start c = from_start c
next state.White c = from_text state.White c
next state.Slash c = from_text state.Slash c
next state.Comment c = from_text state.Comment c
next state.CommentStar c = from_text state.CommentStar c
next state.DoubleQuoted c = from_text state.DoubleQuoted c
next state.SingleQuoted c = from_text state.SingleQuoted c
next state.Less c = from_text state.Less c
next state.LessBang c = from_text state.LessBang c
next state.LessBangMinus c = from_text state.LessBangMinus c
next state.Minus c = from_name state.Minus c
next state.MinusMinus c = from_name state.MinusMinus c
next state.Name c = from_name state.Name c
next state.At c = from_name state.At c
next state.AtMinus c = from_name state.AtMinus c
next state.AtName c = from_name state.AtName c
next state.Hash c = from_name state.Hash c
next state.HashName c = from_name state.HashName c
next state.Plus c = from_number state.Plus c
next state.Dot c = from_number state.Dot c
next state.Point c = from_number state.Point c
next state.Integer c = from_number state.Integer c
next state.Fraction c = from_number state.Fraction c
next state.UnitMinus c = from_number state.UnitMinus c
next state.Unit c = from_number state.Unit c
next state.Exponent c = from_exponent state.Exponent c
next state.ExponentPlus c = from_exponent state.ExponentPlus c
next state.ExponentMinus c = from_exponent state.ExponentMinus c
next state.ExponentDigits c = from_exponent state.ExponentDigits c
next state.ExponentDash c = from_exponent state.ExponentDash c
next state.PlusDigits c = from_exponent state.PlusDigits c
next state.UrlStart c = from_url state.UrlStart c
next state.UrlWhite c = from_url state.UrlWhite c
next state.UrlText c = from_url state.UrlText c
next state.UrlAfter c = from_url state.UrlAfter c
next (state.Escaped i e) c = from_escape i e c
next (state.End k) c = state.Dead
next state.Dead c = state.Dead

-- the kind of what has been read, where it ends in an escape
abbrev pub ended_escape : Holder → Escape → Option Kind
ended_escape i escape.Begun = None
ended_escape holder.Name e = Some kind.Ident
ended_escape holder.AtName e = Some kind.At
ended_escape holder.HashName e = Some kind.Hash
ended_escape holder.Unit e = Some kind.Dimension
ended_escape holder.DoubleQuoted e = None
ended_escape holder.SingleQuoted e = None
ended_escape holder.UrlText e = None

-- the kind of what has been read, before this text
abbrev pub ended : State → List Class → Option Kind
ended state.Slash after = if not (begins (class.Star ∷ []) after) then Some kind.Delim else None
ended state.White after = Some kind.White
ended state.Minus after = Some kind.Delim
ended state.MinusMinus after = Some kind.Ident
ended state.Name after = Some kind.Ident
ended state.At after = Some kind.Delim
ended state.AtName after = Some kind.At
ended state.Hash after = Some kind.Delim
ended state.HashName after = Some kind.Hash
ended state.Plus after = Some kind.Delim
ended state.Dot after = Some kind.Delim
ended state.Less after = Some kind.Delim
ended state.Integer after = Some kind.Number
ended state.Fraction after = Some kind.Number
ended state.ExponentDigits after = Some kind.Number
ended state.PlusDigits after = Some kind.Number
ended state.Exponent after = Some kind.Dimension
ended state.ExponentMinus after = Some kind.Dimension
ended state.ExponentDash after = Some kind.Dimension
ended state.Unit after = Some kind.Dimension
ended (state.Escaped i e) after = ended_escape i e
ended (state.End k) after = Some k
ended s after = None
