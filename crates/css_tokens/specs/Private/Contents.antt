-- How a content is decoded byte by byte, and compared with `url` as it goes.
use Rattle.std.specs.Prelude.{ℕ, zero, suc, ◌/◌, List, [], ◌∷◌, ◌++◌, Bool, true, false, ◌&&◌, ◌==◌, ◌≡◌, Option, Some, None, if◌then◌else◌, nat_lt}
use Rattle.std.specs.Char.{encode_utf8, to_ascii_lowercase}
use Rattle.css_tokens.specs.declared.content.Part.{Part}
use Rattle.css_tokens.specs.declared.content.Part.TheVariants.{Digits, Over}
use Rattle.css_tokens.specs.declared.content.End.{End}
use Rattle.css_tokens.specs.declared.content.End.TheVariants as end
use Rattle.css_tokens.specs.declared.content.Said.{Said}
use Rattle.css_tokens.specs.declared.content.Step.{Step}
use Rattle.css_tokens.specs.declared.content.Letters.{Letters}
use Rattle.css_tokens.specs.declared.content.Letters.TheVariants as letters
use Rattle.css_tokens.specs.Contents.{content_from, ends_url, is_paren, is_quote, never}

-- the bytes that end a content
abbrev pub ends_of : End → ℕ → Bool
ends_of end.Never = never
ends_of end.Paren = is_paren
ends_of end.DoubleQuote = is_quote 34
ends_of end.SingleQuote = is_quote 39
ends_of end.Address = ends_url

-- what the value of the digits is below while so many more may come
abbrev pub room : ℕ → ℕ
room zero = 0x100_0000
room (suc more) = room more / 16

-- the digits so far leave room for the further ones
abbrev pub is_bounded : Part → Bool
is_bounded (Digits more v) = nat_lt v (room more) && nat_lt v 0x100_0000
is_bounded p = true

-- is the content over?
abbrev pub is_over : Part → Bool
is_over Over = true
is_over p = false

-- the text of what an escape means, where there is one
abbrev pub escaped_text : Option ℕ → List ℕ
escaped_text None = []
escaped_text (Some c) = encode_utf8 c

-- what a step says of its byte: how far the content is read, and what the byte adds
abbrev pub taken : Step → ℕ → Part × List ℕ
taken s b = (s.part, escaped_text s.escaped ++ (if s.is_itself then b ∷ [] else []))

-- What a character says: its bytes, before any rest, add this to the content, which goes on from this part.
abbrev pub Says : (ℕ → Bool) → Part → List ℕ → Said → Type 0
Says ends p text said = (rest : List ℕ) → content_from ends p (text ++ rest) ≡ escaped_text said.escaped ++ (escaped_text said.own ++ content_from ends said.part rest)

-- the letters of `url` after one byte more, in any case
abbrev pub next_letter : Letters → ℕ → Letters
next_letter letters.Nothing b = if to_ascii_lowercase b == 117 then letters.U else letters.Other
next_letter letters.U b = if to_ascii_lowercase b == 114 then letters.Ur else letters.Other
next_letter letters.Ur b = if to_ascii_lowercase b == 108 then letters.Url else letters.Other
next_letter letters.Url b = letters.Other
next_letter letters.Other b = letters.Other

-- and after a text
abbrev pub letters_after : Letters → List ℕ → Letters
letters_after l [] = l
letters_after l (b ∷ bs) = letters_after (next_letter l b) bs

-- are they all of `url`?
abbrev pub is_whole : Letters → Bool
is_whole letters.Url = true
is_whole l = false
