-- Places of tokens, and of faults, lie within the text.
use Rattle.std.proofs.Common.{◌≡◌, ℕ, ◌+◌, ◌<◌, ◌≤◌, List, [], ◌∷◌, ◌++◌, map, length, take, drop, Bool, true, false, refl, ap, sym, ◌∙◌, subst, Option, Some, None, MatchOption, if◌then◌else◌, arith, length-append, length-drop, nat_eq, nat_lt, le-leb}
use Rattle.std.proofs.lemmas.Bool.{and_from, lt-ltb}
use Rattle.std.proofs.lemmas.List.{length-take}
use Rattle.std.proofs.lemmas.List.Quantifiers.{position-Some}
use Rattle.std.proofs.lemmas.Str.{utf8_valid_len_le}
use Rattle.std.specs.List.{position, starts_with, AllByRecursion}
use Rattle.std.specs.Str.Lossy.{utf8_valid_len}
use lib.Pointwise.{pointwise_long}
use Rattle.css_tokens.specs.Pairing.{places_rise, IsSoundBefore, IsMismatch, IsTooDeep, IsUnclosed}
use Rattle.css_tokens.specs.Piece.{Piece, Word, word_of, spelled}
use Rattle.css_tokens.specs.Tokens.{First, ReadsTo, Reads, IsPlaced, StopsAt, StopsReading, after_mark, bad_place, broken_place, mark_length, or_else, first_front, is_control, word}
use Rattle.css_tokens.proofs.Reading.{mapped, first_positive, first_front-whole, reads_whole}

-- a text stops within itself
broken_within : (t : List ℕ) (i : ℕ) (b : Bool) → (if b then None else Some (utf8_valid_len t)) ≡ Some i → i ≤ length t
broken_within t i true h = cc
broken_within t i false h = let e : utf8_valid_len t ≡ i = cc in let l = utf8_valid_len_le t in omega arith

bad_within : (t : List ℕ) (i : ℕ) (control : Option ℕ) → position is_control (take (utf8_valid_len t) t) ≡ control → or_else control (broken_place t) ≡ Some i → i ≤ length t
bad_within t i (Some j) e h =
    let p = position-Some is_control (take (utf8_valid_len t) t) j 0 e in
    let f : j ≡ i = cc in
    let l = utf8_valid_len_le t in
    omega (arith, p.0, length-take (utf8_valid_len t) t)
bad_within t i None e h = broken_within t i (nat_eq (utf8_valid_len t) (length t)) h

stops_by : (t : List ℕ) (r : Option ℕ) (o : ℕ) → bad_place t ≡ r → MatchOption r (StopsReading t o) (λ place. o ≡ place) → o ≤ length t
stops_by t (Some i) o e h = let p = bad_within t i (position is_control (take (utf8_valid_len t) t)) refl e in omega (arith, p, h)
stops_by t None o e h =
    let w : length t ≡ length (spelled h.0) + length h.1 = ap length (reads_whole t h.0 h.1 h.2) ∙ length-append (spelled h.0) h.1 in
    omega (arith, w, h.4)

-- the text behind its byte order mark, and the mark
mark_and_rest : (t : List ℕ) (b : Bool) → starts_with nat_eq t (0xEF ∷ 0xBB ∷ 0xBF ∷ []) ≡ b → (if b then 3 else 0) + length (drop (if b then 3 else 0) t) ≡ length t
mark_and_rest t false h = omega arith
mark_and_rest t true h =
    let l : 3 ≡ length (take 3 t) = pointwise_long nat_eq (0xEF ∷ 0xBB ∷ 0xBF ∷ []) (take 3 t) h in
    let d = length-drop 3 t in
    omega (arith, l, length-take 3 t, d)

pub mark_whole : (t : List ℕ) → mark_length t + length (after_mark t) ≡ length t
mark_whole t = mark_and_rest t (starts_with nat_eq t (0xEF ∷ 0xBB ∷ 0xBF ∷ [])) refl

pub stops_within : (t : List ℕ) (o : ℕ) → StopsAt t o → o ≤ length t
stops_within t o h = let s = stops_by (after_mark t) (bad_place (after_mark t)) h.0 refl h.1 in omega (arith, s, h.2, mark_whole t)

-- a first token is not empty
pub first_some : (t : List ℕ) (w : Word) → First t w → 0 < length w.text
first_some [] w h = cc
first_some (b ∷ t) w h =
    let m = mapped (word (b ∷ t)) (first_front (b ∷ t)) w h in
    subst (λ (v : Word). 0 < length v.text) m.2 (omega (arith, first_positive (b ∷ t) m.0 m.1, length-take m.0.1 (b ∷ t)))

first_length : (t : List ℕ) (p : Piece) → First t (word_of p) → length t ≡ length p.text + length (drop (length p.text) t)
first_length t p h = ap length (first_front-whole t (word_of p) h) ∙ length-append p.text (drop (length p.text) t)

rise_from : (t : List ℕ) (at end : ℕ) (ps : List Piece) → end ≡ at + length t → ReadsTo t (map word_of ps) [] → IsPlaced at ps → places_rise ps end ≡ true
rise_from t at end [] e h k = refl
rise_from t at end (p ∷ []) e h k = le-leb p.at end (omega (arith, e, k.0))
rise_from t at end (p ∷ q ∷ ps) e h k =
    let s = first_some t (word_of p) h.0 in
    and_from (nat_lt p.at q.at) (places_rise (q ∷ ps) end)
    (lt-ltb p.at q.at (omega (arith, k.0, k.1.0, s)))
    (rise_from (drop (length p.text) t) (at + length p.text) end (q ∷ ps) (omega (arith, e, first_length t p h.0)) h.2 k.1)

pub places_rise_in : (t : List ℕ) (ps : List Piece) → Reads t (map word_of ps) → IsPlaced (mark_length t) ps → places_rise ps (length t) ≡ true
places_rise_in t ps h k = rise_from (after_mark t) (mark_length t) (length t) ps (sym (mark_whole t)) h.1 k

all_from : (t : List ℕ) (at end : ℕ) (ps : List Piece) → end ≡ at + length t → ReadsTo t (map word_of ps) [] → IsPlaced at ps → AllByRecursion (λ (p : Piece). p.at ≤ end) ps
all_from t at end [] e h k = tt
all_from t at end (p ∷ ps) e h k = (
  omega (arith, e, k.0),
  all_from (drop (length p.text) t) (at + length p.text) end ps (omega (arith, e, first_length t p h.0)) h.2 k.1,
)

pub places_within : (t : List ℕ) (ps : List Piece) → Reads t (map word_of ps) → IsPlaced (mark_length t) ps → AllByRecursion (λ (p : Piece). p.at ≤ length t) ps
places_within t ps h k = all_from (after_mark t) (mark_length t) (length t) ps (sym (mark_whole t)) h.1 k

-- Faults of brackets.

middle : (end : ℕ) (front rest : List Piece) (token : Piece) → AllByRecursion (λ (p : Piece). p.at ≤ end) (front ++ token ∷ rest) → token.at ≤ end
middle end [] rest token h = h.0
middle end (p ∷ front) rest token h = middle end front rest token h.1

before_within : (ps front : List Piece) (token : Piece) (end o : ℕ) → AllByRecursion (λ (p : Piece). p.at ≤ end) ps → IsSoundBefore ps front token o → o ≤ end
before_within ps front token end o h b =
    let l = middle end front b.rest token (subst (λ (xs : List Piece). AllByRecursion (λ (p : Piece). p.at ≤ end) xs) b.split h) in
    omega (arith, l, b.place)

pub mismatch_within : (ps : List Piece) (end o : ℕ) → AllByRecursion (λ (p : Piece). p.at ≤ end) ps → IsMismatch ps o → o ≤ end
mismatch_within ps end o h m = before_within ps m.front m.token end o h m.before

pub deep_within : (ps : List Piece) (end o : ℕ) → AllByRecursion (λ (p : Piece). p.at ≤ end) ps → IsTooDeep ps o → o ≤ end
deep_within ps end o h m = before_within ps m.front m.token end o h m.before

pub unclosed_within : (ps : List Piece) (end o : ℕ) → IsUnclosed ps end o → o ≤ end
unclosed_within ps end o u = omega (arith, u.place)
