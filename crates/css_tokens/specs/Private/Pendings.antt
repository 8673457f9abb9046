-- How a value is written, word by word: a gap waits until the next word shows that the value goes on (CSS Syntax 3, section 10).
use Rattle.std.specs.Prelude.{ℕ, List, [], ◌∷◌, ◌++◌, Bool, true, false, if◌then◌else◌, codes, ◌≡◌, Result, Ok, Err}
use Rattle.css_tokens.specs.declared.kind.Kind.{Kind}
use Rattle.css_tokens.specs.declared.kind.Kind.TheVariants as kind
use Rattle.css_tokens.specs.declared.value.Pending.{Pending}
use Rattle.css_tokens.specs.declared.value.Pending.TheVariants.{Start, Nothing, Comment, Space, AfterEscape, EscapeComment, EscapeSpace}
use Rattle.css_tokens.specs.Piece.{Word, word_of}
use Rattle.css_tokens.specs.declared.component.Block.{Block}
use Rattle.css_tokens.specs.Trees.{words_all, closing}
use Rattle.css_tokens.specs.declared.memory.OutOfMemory.{OutOfMemory}
use Rattle.css_tokens.specs.Appends.{AppendsFront}
use Rattle.css_tokens.specs.Values.{is_white, is_gap, takes_space}

-- what waits after a gap
abbrev pub after_waiting_gap : Pending → Kind → Pending
after_waiting_gap Start k = Start
after_waiting_gap Nothing k = if is_white k then Space else Comment
after_waiting_gap Comment k = if is_white k then Space else Comment
after_waiting_gap Space k = Space
after_waiting_gap AfterEscape k = if is_white k then EscapeSpace else EscapeComment
after_waiting_gap EscapeComment k = if is_white k then EscapeSpace else EscapeComment
after_waiting_gap EscapeSpace k = EscapeSpace

-- what waits after a word that is no gap
abbrev pub after_solid : Bool → Pending
after_solid takes = if takes then AfterEscape else Nothing

-- what waits after a word
abbrev pub pending_next : Pending → Word → Pending
pending_next p w = if is_gap w.kind then after_waiting_gap p w.kind else after_solid (takes_space w)

-- the text of what waits
abbrev pub pending_text : Pending → List ℕ
pending_text Start = []
pending_text Nothing = []
pending_text Comment = codes "/**/"
pending_text Space = codes " "
pending_text AfterEscape = []
pending_text EscapeComment = codes "/**/"
pending_text EscapeSpace = codes "/**/ "

-- the text that a word lets be written: none for a gap, else what waits and the word
abbrev pub word_text : Pending → Word → List ℕ
word_text p w = if is_gap w.kind then [] else pending_text p ++ w.text

-- the text that words in a row let be written
abbrev pub texts_after : Pending → List Word → List ℕ
texts_after p [] = []
texts_after p (w ∷ ws) = word_text p w ++ texts_after (pending_next p w) ws

-- what waits after words in a row
abbrev pub pending_after : Pending → List Word → Pending
pending_after p [] = p
pending_after p (w ∷ ws) = pending_after (pending_next p w) ws

-- the words of a block, its opening and closing tokens among them
abbrev pub block_words : Block → List Word
block_words b = word_of b.opening ∷ words_all b.items ++ word_of (closing b.opening b.close) ∷ []

-- The words are written, or a front of their text.
abbrev pub Writes : Pending → List Word → List ℕ → List ℕ → Result Pending OutOfMemory → Type 0
Writes p ws old new (Ok next) = (new ≡ old ++ texts_after p ws) × (next ≡ pending_after p ws)
Writes p ws old new (Err e) = AppendsFront old new (texts_after p ws)

-- the kinds whose tokens may end in an escape
abbrev pub may_take : Kind → Bool
may_take kind.Ident = true
may_take kind.At = true
may_take kind.Hash = true
may_take kind.Dimension = true
may_take k = false
