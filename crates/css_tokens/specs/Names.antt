-- The name that a token holds (CSS Syntax 3, section 4).
use Rattle.std.specs.Prelude.{ℕ, List, [], ◌∷◌, not, ◌&&◌, ◌||◌, Bool, true, false, ◌==◌, if◌then◌else◌, nat_le}
use Rattle.std.specs.Char.{is_ascii_alphabetic}
use Rattle.css_tokens.specs.declared.kind.Kind.{Kind}
use Rattle.css_tokens.specs.declared.kind.Kind.TheVariants.{White, Comment, Ident, Function, Url, At, Hash, String, Number, Percentage, Dimension, Colon, Semicolon, Comma, Open, Close, Delim, Cdo, Cdc}
use Rattle.std.specs.List.{list_all}
use Rattle.std.specs.Str.{chars, is_utf8}
use Rattle.css_tokens.specs.Contents.{content, ends_url, is_paren, is_quote, is_space, never}

-- is it what a token may mean: in UTF-8, and without U+0000?
abbrev pub is_content : List ℕ → Bool
is_content text = is_utf8 text && list_all (λ c. not (c == 0)) (chars text)

-- is it a name: a content that is not empty?
abbrev pub is_name : List ℕ → Bool
is_name [] = false
is_name (b ∷ bs) = is_content (b ∷ bs)

-- an ASCII letter, `_`, a byte of a character from U+0080 on, or the `\` of an escape
abbrev pub is_name_start : ℕ → Bool
is_name_start b = is_ascii_alphabetic b || (b == 95 || (b == 92 || nat_le 128 b))

-- after a first `-`: a second one or a name start
abbrev pub starts_behind_dash : List ℕ → Bool
starts_behind_dash [] = false
starts_behind_dash (b ∷ bs) = b == 45 || is_name_start b

-- would the text start an identifier, where it has no `\` but in escapes? (section 4.3.9)
abbrev pub starts_ident : List ℕ → Bool
starts_ident [] = false
starts_ident (b ∷ bs) = is_name_start b || (b == 45 && starts_behind_dash bs)

-- does a token of this kind hold a name?
abbrev pub has_name : Kind → Bool
has_name Ident = true
has_name Function = true
has_name At = true
has_name Hash = true
has_name String = true
has_name Url = true
has_name White = false
has_name Comment = false
has_name Number = false
has_name Percentage = false
has_name Dimension = false
has_name Colon = false
has_name Semicolon = false
has_name Comma = false
has_name Open = false
has_name Close = false
has_name Delim = false
has_name Cdo = false
has_name Cdc = false

-- the text without this byte at its start
abbrev pub after_byte : ℕ → List ℕ → List ℕ
after_byte byte [] = []
after_byte byte (b ∷ bs) = if b == byte then bs else b ∷ bs

-- what follows this byte where it first stands
abbrev pub after_first : ℕ → List ℕ → List ℕ
after_first byte [] = []
after_first byte (b ∷ bs) = if b == byte then bs else after_first byte bs

-- the text without white space at its start
abbrev pub after_space : List ℕ → List ℕ
after_space [] = []
after_space (b ∷ bs) = if is_space b then after_space bs else b ∷ bs

-- the quote that a String begins with: `"` or `'`
abbrev pub quote_of : List ℕ → ℕ
quote_of [] = 39
quote_of (b ∷ bs) = if b == 34 then 34 else 39

-- A Function up to its `(`, an At behind its `@`, a Hash behind its `#`, a String between its quotes, and of a Url what
-- stands behind `(` and white space, up to white space or `)`: each with its escapes decoded.
abbrev pub name_of_word : Kind → List ℕ → List ℕ
name_of_word Function text = content is_paren text
name_of_word At text = content never (after_byte 64 text)
name_of_word Hash text = content never (after_byte 35 text)
name_of_word String text = content (is_quote (quote_of text)) (after_byte (quote_of text) text)
name_of_word Url text = content ends_url (after_space (after_first 40 text))
name_of_word _ text = content never text
