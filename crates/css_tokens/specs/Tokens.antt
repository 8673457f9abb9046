-- The tokens of a text: what its first token is, what its tokens are, and where reading stops (CSS Syntax 3, sections 4.3.1 and 4.3.4).
use Rattle.std.specs.Prelude.{ℕ, ◌+◌, List, [], ◌∷◌, map, length, take, drop, ◌≡◌, ◌⊎◌, Bool, true, false, ◌&&◌, ◌||◌, not, Option, Some, None, MatchOption, nat_eq, if◌then◌else◌}
use Rattle.std.specs.List.{position, starts_with}
use Rattle.std.specs.Str.Lossy.{utf8_valid_len}
use Rattle.std.specs.Option.{option_map, option_and_then}
use Rattle.css_tokens.specs.declared.kind.Kind.{Kind}
use Rattle.css_tokens.specs.declared.kind.Kind.TheVariants as kind
use Rattle.css_tokens.specs.declared.class.Class.{Class}
use Rattle.css_tokens.specs.declared.class.Class.TheVariants as class
use Rattle.css_tokens.specs.Characters.{class_of, has, is_class, white}
use Rattle.css_tokens.specs.Kinds.{Row, table, url_table, url_inside, kind_of, is_kind}
use Rattle.css_tokens.specs.Contents.{is_url_name}
use Rattle.css_tokens.specs.Patterns.{fits}
use Rattle.css_tokens.specs.Piece.{Piece, Word, spelled}

-- the classes of the characters of a text, one for each byte
abbrev pub classes_of : List ℕ → List Class
classes_of text = map class_of text

-- the one value where there is one, else the other
abbrev pub or_else : {A : Type 0} → Option A → Option A → Option A
or_else (Some x) other = Some x
or_else None other = other

-- a kind, and the length of the front that has it
abbrev pub as_front : ℕ → Kind → Kind × ℕ
as_front n k = (k, n)

-- the same front, longer by n characters
abbrev pub longer : ℕ → Kind × ℕ → Kind × ℕ
longer n front = (front.0, front.1 + n)

-- The longest front of the text that has a kind, where kind names that of a front before what follows it: one with the first character, or else the empty front.
abbrev pub longest : (List Class → List Class → Option Kind) → List Class → Option (Kind × ℕ)
longest kind [] = option_map (as_front 0) (kind [] [])
longest kind (x ∷ s) = or_else (option_map (longer 1) (longest (λ front after. kind (x ∷ front) after) s)) (option_map (as_front 0) (kind [] (x ∷ s)))

-- the longest front of the text that spells a kind of this table, and the first such kind
abbrev pub front_of : List Row → List ℕ → Option (Kind × ℕ)
front_of rows text = longest (kind_of rows) (classes_of text)

-- is there a kind, and is it this one?
abbrev pub names : Kind → Option Kind → Bool
names k None = false
names k (Some j) = is_kind k j

-- is this a Function whose decoded name is `url`, in any case of ASCII letters?
abbrev pub is_url : List ℕ → Bool
is_url text = names kind.Function (kind_of table (classes_of text) []) && is_url_name text

-- is the first character that is not white space a quote?
abbrev pub quote_follows : List Class → Bool
quote_follows [] = false
quote_follows (x ∷ s) = if has white x then quote_follows s else has (class.DoubleQuote ∷ class.SingleQuote ∷ []) x

-- A Function named `url` stays one where a quote follows. Else it begins a Url, or else no kind is spelled there.
abbrev pub url_rule : List ℕ → Kind × ℕ → Option (Kind × ℕ)
url_rule text front =
    if is_url (take front.1 text) && not (quote_follows (classes_of (drop front.1 text)))
    then option_map (longer front.1) (front_of url_table (drop front.1 text))
    else Some front

-- the first token of a text as its kind and its length, with the rule on `url`
abbrev pub first_front : List ℕ → Option (Kind × ℕ)
first_front text = option_and_then (url_rule text) (front_of table text)

-- the front of the text of this length, as a word of this kind
abbrev pub word : List ℕ → Kind × ℕ → Word
word text front = record { kind = front.0; text = take front.1 text }

-- w is the first token of the text: its longest front that spells a kind, and the first kind of the table that it spells, with the rule on `url`
abbrev pub First : List ℕ → Word → Type 0
First text w = option_map (word text) (first_front text) ≡ Some w

-- something is left, and no front of it spells a kind
abbrev pub IsStuck : List ℕ → Type 0
IsStuck [] = ⊥
IsStuck (b ∷ text) = first_front (b ∷ text) ≡ None

-- is this front a Function named `url`, and what is behind it the inside of a Url?
abbrev pub is_url_at : List ℕ → Option (Kind × ℕ) → Bool
is_url_at text None = false
is_url_at text (Some front) = is_url (take front.1 text) && fits url_inside (classes_of (drop front.1 text))

-- does the text spell the kind, what follows it aside? By the table, or as a Url: a Function named `url` and its inside
unfoldable pub spells : Kind → List ℕ → Bool
spells k text = names k (kind_of table (classes_of text) []) || (is_kind k kind.Url && is_url_at text (front_of table text))

-- `<!--` and `-->` are spelled, and not read
abbrev pub is_refused : Kind → Bool
is_refused kind.Cdo = true
is_refused kind.Cdc = true
is_refused k = false

-- the text reads as these words, and then rest is left
abbrev pub ReadsTo : List ℕ → List Word → List ℕ → Type 0
ReadsTo text [] rest = text ≡ rest
ReadsTo text (w ∷ ws) rest = First text w × (is_refused w.kind ≡ false) × ReadsTo (drop (length w.text) text) ws rest

-- each piece stands behind those before it, the first at this place
abbrev pub IsPlaced : ℕ → List Piece → Type 0
IsPlaced at [] = Unit {0}
IsPlaced at (p ∷ ps) = (p.at ≡ at) × IsPlaced (at + length p.text) ps

-- is the byte a control character, other than tab, LF, FF and CR?
abbrev pub is_control : ℕ → Bool
is_control b = is_class class.Control (class_of b)

-- how many bytes the byte order mark at the start of the text takes: EF BB BF, or none
abbrev pub mark_length : List ℕ → ℕ
mark_length text = if starts_with nat_eq text (0xEF ∷ 0xBB ∷ 0xBF ∷ []) then 3 else 0

-- the text behind a byte order mark
abbrev pub after_mark : List ℕ → List ℕ
after_mark text = drop (mark_length text) text

-- the first byte that belongs to no character in UTF-8
abbrev pub broken_place : List ℕ → Option ℕ
broken_place text = if nat_eq (utf8_valid_len text) (length text) then None else Some (utf8_valid_len text)

-- the first byte that belongs to no character in UTF-8, or is a control character
abbrev pub bad_place : List ℕ → Option ℕ
bad_place text = or_else (position is_control (take (utf8_valid_len text) text)) (broken_place text)

-- behind a byte order mark the text is in UTF-8 without control characters, and reads as these words
abbrev pub Reads : List ℕ → List Word → Type 0
Reads text words = (bad_place (after_mark text) ≡ None) × ReadsTo (after_mark text) words []

-- reading can't go on: no kind is spelled, or one that is not read
abbrev pub Stops : List ℕ → Type 0
Stops text = IsStuck text ⊎ ((w : Word) × First text w × (is_refused w.kind ≡ true))

-- the place behind the words that are read, where reading can't go on
abbrev pub StopsReading : List ℕ → ℕ → Type 0
StopsReading text o = (words : List Word) × (rest : List ℕ) × ReadsTo text words rest × Stops rest × (o ≡ length (spelled words))

-- where a text without a byte order mark has no reading: at its first bad byte, or else where reading can't go on
abbrev pub StopsBehind : List ℕ → ℕ → Type 0
StopsBehind text o =
    MatchOption (bad_place text)
    (StopsReading text o)
    (λ place. o ≡ place)

-- where a text has no reading, its byte order mark counted
abbrev pub StopsAt : List ℕ → ℕ → Type 0
StopsAt text o = (n : ℕ) × StopsBehind (after_mark text) n × (o ≡ mark_length text + n)
