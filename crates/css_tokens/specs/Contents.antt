-- What the text of a token means, its escapes decoded (CSS Syntax 3, section 4.3.7).
use Rattle.std.specs.Prelude.{ℕ, List, [], ◌∷◌, ◌++◌, Bool, false, ◌&&◌, ◌||◌, ◌==◌, ◌+◌, ◌-◌, ◌*◌, if◌then◌else◌, nat_lt, nat_eq, map, codes}
use Rattle.std.specs.Char.{encode_utf8, to_ascii_lowercase, is_ascii_hexdigit, digit_value}
use Rattle.std.specs.Int.{is_in_range}
use lib.Pointwise.{pointwise}
use Rattle.css_tokens.specs.declared.content.Part.{Part}
use Rattle.css_tokens.specs.declared.content.Part.TheVariants.{Outside, Begun, Digits, Return, Over}

-- space, tab, LF, CR and FF
abbrev pub is_space : ℕ → Bool
is_space b = b == 32 || b == 9 || b == 10 || b == 13 || b == 12

-- the character that an escape of this value means: for zero, a surrogate and a value past 10FFFF it is U+FFFD
abbrev pub meant : ℕ → ℕ
meant v = if v == 0 || (is_in_range 0xD800 0xDFFF v || nat_lt 0x10FFFF v) then 0xFFFD else v

-- A byte outside escapes: it ends the content, begins an escape, or stands for itself.
abbrev pub outside : (ℕ → Bool) → ℕ → Part × List ℕ
outside ends b = if ends b then (Over, []) else (if b == 92 then (Begun, []) else (Outside, b ∷ []))

-- The byte behind a `\`: the first digit, a newline, which in a string means nothing, or the character that is meant.
abbrev pub begun : ℕ → Part × List ℕ
begun b = if is_ascii_hexdigit b then (Digits 5 (digit_value b), []) else (if b == 13 then (Return, []) else (if b == 10 || b == 12 then (Outside, []) else (Outside, b ∷ [])))

-- What ends the digits: a white space, which belongs to the escape, or a byte outside escapes.
abbrev pub behind_digits : (ℕ → Bool) → ℕ → Part × List ℕ
behind_digits ends b = if b == 13 then (Return, []) else (if is_space b then (Outside, []) else outside ends b)

-- the same step behind a text
abbrev pub behind : List ℕ → Part × List ℕ → Part × List ℕ
behind text step = (step.0, text ++ step.1)

-- how far the content is read after one byte more, and what the byte adds to it
abbrev pub step : (ℕ → Bool) → Part → ℕ → Part × List ℕ
step ends Outside b = outside ends b
step ends Begun b = begun b
step ends (Digits more v) b = if is_ascii_hexdigit b && nat_lt 0 more then (Digits (more - 1) (v * 16 + digit_value b), []) else behind (encode_utf8 (meant v)) (behind_digits ends b)
step ends Return b = if b == 10 then (Outside, []) else outside ends b
step ends Over b = (Over, [])

-- what the end of the text adds
abbrev pub flush : Part → List ℕ
flush (Digits more v) = encode_utf8 (meant v)
flush p = []

-- what a text means from here on, up to the first byte outside escapes that ends it
abbrev pub content_from : (ℕ → Bool) → Part → List ℕ → List ℕ
content_from ends p [] = flush p
content_from ends p (b ∷ bs) = (step ends p b).1 ++ content_from ends (step ends p b).0 bs

-- what a text means, up to the first byte outside escapes that ends it
abbrev pub content : (ℕ → Bool) → List ℕ → List ℕ
content ends text = content_from ends Outside text

-- nothing ends the text
abbrev pub never : ℕ → Bool
never b = false

-- `(` ends the name of a Function
abbrev pub is_paren : ℕ → Bool
is_paren b = b == 40

-- the quote ends the content of a String
abbrev pub is_quote : ℕ → ℕ → Bool
is_quote quote b = b == quote

-- white space or `)` ends the address of a Url
abbrev pub ends_url : ℕ → Bool
ends_url b = is_space b || b == 41

-- is the content, up to a `(`, the name `url` in any case of ASCII letters?
abbrev pub is_url_name : List ℕ → Bool
is_url_name text = pointwise nat_eq (map to_ascii_lowercase (content is_paren text)) (codes "url")
