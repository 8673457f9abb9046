-- Every text has a reading, or a place where it has none.
use Rattle.std.proofs.Common.{◌≡◌, ℕ, zero, suc, ◌+◌, ◌≤◌, ◌⊎◌, inl, inr, List, [], ◌∷◌, length, drop, Bool, true, false, Option, Some, None, MatchOption, refl, ap, ◌∙◌, subst, arith, length-append}
use Rattle.std.specs.Option.{option_map}
use Rattle.css_tokens.specs.declared.kind.Kind.{Kind}
use Rattle.css_tokens.specs.Piece.{Word, spelled}
use Rattle.css_tokens.specs.Tokens.{First, ReadsTo, Reads, Stops, StopsAt, StopsReading, after_mark, bad_place, mark_length, first_front, word, is_refused}
use Rattle.css_tokens.proofs.Reading.{first_front-whole}
use Rattle.css_tokens.proofs.Within.{first_some}

-- the words up to the end of the text, or up to where reading can't go on
record Way (text : List ℕ) : Type 0 where
  words : List Word
  rest : List ℕ
  reads : ReadsTo text words rest
  last : (rest ≡ []) ⊎ Stops rest

one_more : (text : List ℕ) (w : Word) → First text w → is_refused w.kind ≡ false → Way (drop (length w.text) text) → Way text
one_more text w f r way = record { words = w ∷ way.words; rest = way.rest; reads = (f, r, way.reads); last = way.last }

first_shorter : (text : List ℕ) (w : Word) (n : ℕ) → First text w → length text ≤ suc n → length (drop (length w.text) text) ≤ n
first_shorter text w n f l =
    let s = first_some text w f in
    let e : length text ≡ length w.text + length (drop (length w.text) text) = ap length (first_front-whole text w f) ∙ length-append w.text (drop (length w.text) text) in
    omega (arith, s, e)

stopped : (text : List ℕ) → Stops text → Way text
stopped text s = record { words = []; rest = text; reads = refl; last = inr s }

by_first : (text : List ℕ) (w : Word) (refused : Bool) → First text w → is_refused w.kind ≡ refused → Way (drop (length w.text) text) → Way text
by_first text w true f r way = stopped text (inr (w, f, r))
by_first text w false f r way = one_more text w f r way

by_front : (b : ℕ) (text : List ℕ) (front : Option (Kind × ℕ)) → first_front (b ∷ text) ≡ front → ((w : Word) → First (b ∷ text) w → Way (drop (length w.text) (b ∷ text))) → Way (b ∷ text)
by_front b text None e later = stopped (b ∷ text) (inl e)
by_front b text (Some front) e later =
    let w = word (b ∷ text) front in
    let f : First (b ∷ text) w = ap (option_map (word (b ∷ text))) e in
    by_first (b ∷ text) w (is_refused w.kind) f refl (later w f)

-- each first token leaves less
way : (n : ℕ) (text : List ℕ) → length text ≤ n → Way text
way n [] l = record { words = []; rest = []; reads = refl; last = inl refl }
way zero (b ∷ text) l = absurd (omega arith)
way (suc n) (b ∷ text) l = by_front b text (first_front (b ∷ text)) refl (λ w f. way n (drop (length w.text) (b ∷ text)) (first_shorter (b ∷ text) w n f l))

abbrev ReadsOr : List ℕ → (ℕ → Type 0) → Type 0
ReadsOr text StopsIn = ((words : List Word) × ReadsTo text words []) ⊎ ((o : ℕ) × StopsIn o)

by_way : (text : List ℕ) → Way text → ReadsOr text (StopsReading text)
by_way text way = elim way.last [
  | inl e ↦ inl (way.words, subst (ReadsTo text way.words) e way.reads)
  | inr s ↦ inr (length (spelled way.words), (way.words, way.rest, way.reads, s, refl))
]

abbrev GoodOr : List ℕ → Option ℕ → Type 0
GoodOr text bad = ((words : List Word) × (bad ≡ None) × ReadsTo text words []) ⊎ ((o : ℕ) × MatchOption bad (StopsReading text o) (λ place. o ≡ place))

by_bad : (text : List ℕ) (bad : Option ℕ) → ReadsOr text (StopsReading text) → GoodOr text bad
by_bad text (Some place) h = inr (place, refl)
by_bad text None (inl h) = inl (h.0, refl, h.1)
by_bad text None (inr h) = inr h

-- every text reads, or has a place where it does not
pub reads_or_stops_somewhere : (text : List ℕ) → ((words : List Word) × Reads text words) ⊎ ((o : ℕ) × StopsAt text o)
reads_or_stops_somewhere text =
    let t = after_mark text in
    elim (by_bad t (bad_place t) (by_way t (way (length t) t (omega arith)))) [
      | inl h ↦ inl (h.0, (h.1, h.2))
      | inr h ↦ inr (mark_length text + h.0, (h.0, h.1, refl))
    ]
