-- How far a text is read: one component more, the end, and the first fault.
use Rattle.std.proofs.Common.{◌≡◌, ℕ, ◌+◌, ◌-◌, ◌≤◌, List, [], ◌∷◌, ◌++◌, ◌&&◌, true, MatchOption, map, length, take, drop, inl, inr, sym, ap, ◌∙◌, subst, arith, append_assoc, unwrap_or, option_and_then, drop-drop, length-append, length-drop}
use Rattle.std.proofs.lemmas.Bool.{cases_lt}
use Rattle.std.proofs.lemmas.Grind.{flat_map-append}
use Rattle.std.proofs.lemmas.List.{append-nil, map-append, take-append-le}
use Rattle.std.proofs.lemmas.List.Folds.{list_all-append}
use Rattle.std.proofs.Math.Seq.{take-append-add, drop-append_seam}
use Rattle.css_tokens.specs.declared.component.Component.{Component}
use Rattle.css_tokens.specs.declared.pairing.ComponentFault.{ComponentFault}
use Rattle.css_tokens.specs.declared.pairing.ComponentFault.TheVariants.{Syntax, Depth, Memory}
use Rattle.css_tokens.specs.Components.{HasBracketFault, IsFirstFault, HasRead}
use Rattle.css_tokens.specs.Pairing.{awaited, awaited_after, depth, IsShallow, IsPaired, IsSoundBefore, IsMismatch, IsTooDeep, IsUnclosed, IsBracketFault}
use Rattle.css_tokens.specs.Piece.{Piece, Word, word_of, spelled}
use Rattle.css_tokens.specs.Private.ComponentReading.{IsReadOn, HasFaultFrom, IsFaultFrom, IsFaultBehind}
use Rattle.css_tokens.specs.Progress.{Progress}
use Rattle.css_tokens.specs.Tokens.{ReadsTo, IsPlaced, StopsAt, StopsReading, after_mark, mark_length}
use Rattle.css_tokens.specs.Trees.{pieces_of, pieces_all, is_formed}
use Rattle.css_tokens.proofs.Again.{composes}
use Rattle.css_tokens.proofs.ComponentReadingLemmas.{begins_nothing}
use Rattle.css_tokens.proofs.PairingLemmas.{awaited_after-append}
use Rattle.css_tokens.proofs.Reading.{size, reads_whole}

-- Tokens behind others that are paired.

module _ (front : List Piece) (paired : IsPaired front) where
  awaited_behind : (ts : List Piece) → awaited (front ++ ts) ≡ awaited ts
  awaited_behind ts = awaited_after-append [] front ts ∙ ap (option_and_then (λ next. awaited_after next ts)) paired.all_closed

  depth_behind : (ts : List Piece) → depth (front ++ ts) ≡ depth ts
  depth_behind ts = ap (λ o. length (unwrap_or o [])) (awaited_behind ts)

  shallow_behind : (ts : List Piece) → IsShallow ts → IsShallow (front ++ ts)
  shallow_behind ts h n =
      elim (cases_lt (length front) n) [
        | inl l ↦ (
            let k : length front + (n - length front) ≡ n = omega arith in
            let e : take n (front ++ ts) ≡ front ++ take (n - length front) ts = subst (λ m. take m (front ++ ts) ≡ front ++ take (n - length front) ts) k (take-append-add front ts (n - length front)) in
            subst (λ qs. depth qs ≤ 64) (sym e) (subst (λ (d : ℕ). d ≤ 64) (sym (depth_behind (take (n - length front) ts))) (h (n - length front))))
        | inr l ↦ (let e : take n (front ++ ts) ≡ take n front = take-append-le n front ts l in subst (λ qs. depth qs ≤ 64) (sym e) (paired.shallow n))
      ]

  paired_behind : (ts : List Piece) → IsPaired ts → IsPaired (front ++ ts)
  paired_behind ts h = record { all_closed = awaited_behind ts ∙ h.all_closed; shallow = shallow_behind ts h.shallow }

  sound_behind : (ts before : List Piece) (token : Piece) (at : ℕ) → IsSoundBefore ts before token at → IsSoundBefore (front ++ ts) (front ++ before) token at
  sound_behind ts before token at h = record {
    rest = h.rest;
    split = ap (λ us. front ++ us) h.split ∙ sym (append_assoc front before (token ∷ h.rest));
    waiting = h.waiting;
    matched = awaited_behind before ∙ h.matched;
    shallow = shallow_behind before h.shallow;
    place = h.place;
  }

  mismatch_behind : (ts : List Piece) (at : ℕ) → IsMismatch ts at → IsMismatch (front ++ ts) at
  mismatch_behind ts at m = record {
    front = front ++ m.front;
    token = m.token;
    before = sound_behind ts m.front m.token at m.before;
    none = ap awaited (append_assoc front m.front (m.token ∷ [])) ∙ awaited_behind (m.front ++ m.token ∷ []) ∙ m.none;
  }

  deep_behind : (ts : List Piece) (at : ℕ) → IsTooDeep ts at → IsTooDeep (front ++ ts) at
  deep_behind ts at m = record {
    front = front ++ m.front;
    token = m.token;
    before = sound_behind ts m.front m.token at m.before;
    deep = ap depth (append_assoc front m.front (m.token ∷ [])) ∙ depth_behind (m.front ++ m.token ∷ []) ∙ m.deep;
  }

  unclosed_behind : (ts : List Piece) (end at : ℕ) → IsUnclosed ts end at → IsUnclosed (front ++ ts) end at
  unclosed_behind ts end at m = record {
    innermost = m.innermost;
    outer = m.outer;
    unclosed = awaited_behind ts ∙ m.unclosed;
    shallow = shallow_behind ts m.shallow;
    place = m.place;
  }

  bracket_fault_behind : (ts : List Piece) (end : ℕ) (f : ComponentFault) → IsBracketFault ts end f → IsBracketFault (front ++ ts) end f
  bracket_fault_behind ts end (Syntax at) (inl m) = inl (mismatch_behind ts at m)
  bracket_fault_behind ts end (Syntax at) (inr m) = inr (unclosed_behind ts end at m)
  bracket_fault_behind ts end (Depth at) m = deep_behind ts at m
  bracket_fault_behind ts end Memory m = absurd m

-- What is read behind what is read.

words-append : (xs ys : List Piece) → map word_of (xs ++ ys) ≡ map word_of xs ++ map word_of ys
words-append xs ys = map-append word_of xs ys

spelled-append : (xs ys : List Word) → length (spelled (xs ++ ys)) ≡ length (spelled xs) + length (spelled ys)
spelled-append xs ys = ap length (flat_map-append (λ (w : Word). w.text) xs ys) ∙ length-append (spelled xs) (spelled ys)

size-append : (xs ys : List Piece) → size (xs ++ ys) ≡ size xs + size ys
size-append xs ys = ap (λ ws. length (spelled ws)) (words-append xs ys) ∙ spelled-append (map word_of xs) (map word_of ys)

placed_behind : (start : ℕ) (xs ys : List Piece) → IsPlaced start xs → IsPlaced (start + size xs) ys → IsPlaced start (xs ++ ys)
placed_behind start [] ys h k = let e : start + 0 ≡ start = omega arith in subst (λ (n : ℕ). IsPlaced n ys) e k
placed_behind start (x ∷ xs) ys h k =
    let e : start + size (x ∷ xs) ≡ (start + length x.text) + size xs = omega (arith, length-append x.text (spelled (map word_of xs))) in
    (h.0, placed_behind (start + length x.text) xs ys h.1 (subst (λ (n : ℕ). IsPlaced n ys) e k))

pieces_push : (done : List Component) (c : Component) → pieces_all (done ++ c ∷ []) ≡ pieces_all done ++ pieces_of c
pieces_push done c = flat_map-append pieces_of done (c ∷ []) ∙ ap (λ ps. pieces_all done ++ ps) (append-nil (pieces_of c))

-- so far is the text read
abbrev pub progress : List ℕ → ℕ → Progress
progress text at = record { text = text; at = at }

module _ (text : List ℕ) (rest : List ℕ) (at : ℕ) (rest_is : rest ≡ drop at text) where
  -- what is left behind one component more
  pub left_behind : (c : Component) (left : List ℕ) (end : ℕ) → IsReadOn [] rest at (pieces_of c) left end → left ≡ drop end text
  left_behind c left end on =
      let r = on at rest (begins_nothing rest at) in
      let ws = map word_of (pieces_of c) in
      let n = length (spelled ws) in
      sym (ap (λ (m : ℕ). drop m text) r.behind
      ∙ sym (drop-drop n at text)
      ∙ ap (drop n) (sym rest_is ∙ reads_whole rest ws left r.read)
      ∙ drop-append_seam (spelled ws) left)

module _ (p : Progress) (done : List Component) (h : HasRead p done) (rest : List ℕ) (rest_is : rest ≡ drop p.at p.text) (within : p.at ≤ length p.text) where
  start_is : p.at ≡ mark_length p.text + size (pieces_all done)
  start_is = h.behind

  reads_rest : ReadsTo (after_mark p.text) (map word_of (pieces_all done)) rest
  reads_rest = subst (λ r. ReadsTo (after_mark p.text) (map word_of (pieces_all done)) r) (sym rest_is) h.read

  reads_behind : (ps : List Piece) (left : List ℕ) → ReadsTo rest (map word_of ps) left → ReadsTo (after_mark p.text) (map word_of (pieces_all done ++ ps)) left
  reads_behind ps left r = subst (λ ws. ReadsTo (after_mark p.text) ws left) (sym (words-append (pieces_all done) ps)) (composes (after_mark p.text) (map word_of (pieces_all done)) (map word_of ps) rest left reads_rest r)

  all_placed : (ps : List Piece) → IsPlaced p.at ps → IsPlaced (mark_length p.text) (pieces_all done ++ ps)
  all_placed ps k = placed_behind (mark_length p.text) (pieces_all done) ps h.placed (subst (λ (n : ℕ). IsPlaced n ps) start_is k)

  end_is : p.at + length rest ≡ length p.text
  end_is = omega (arith, ap length rest_is, length-drop p.at p.text)

  -- one component more
  pub reads_one_more : (c : Component) (left : List ℕ) (end : ℕ) → IsReadOn [] rest p.at (pieces_of c) left end → is_formed c ≡ true → IsPaired (pieces_of c) → HasRead (progress p.text end) (done ++ c ∷ [])
  reads_one_more c left end on formed paired =
      let r = on p.at rest (begins_nothing rest p.at) in
      let push = pieces_push done c in
      let read : ReadsTo (after_mark p.text) (map word_of (pieces_all done ++ pieces_of c)) (drop end p.text) = subst (λ l. ReadsTo (after_mark p.text) (map word_of (pieces_all done ++ pieces_of c)) l) (left_behind p.text rest p.at rest_is c left end on) (reads_behind (pieces_of c) left r.read) in
      record {
        good = h.good;
        read = subst (λ ps. ReadsTo (after_mark p.text) (map word_of ps) (drop end p.text)) (sym push) read;
        placed = subst (λ ps. IsPlaced (mark_length p.text) ps) (sym push) (all_placed (pieces_of c) r.placed);
        behind = omega (arith, start_is, size-append (pieces_all done) (pieces_of c), ap size push, r.behind);
        formed = list_all-append is_formed done (c ∷ []) ∙ ap (λ a. a && (is_formed c && true)) h.formed ∙ ap (λ b. b && true) formed;
        paired = subst IsPaired (sym push) (paired_behind (pieces_all done) h.paired (pieces_of c) paired);
      }

  stops_behind : (o n : ℕ) → StopsReading rest n → o ≡ p.at + n → StopsAt p.text o
  stops_behind o n s e =
      let text = after_mark p.text in
      let before = map word_of (pieces_all done) in
      let m = size (pieces_all done) + n in
      let read : StopsReading text m = (before ++ s.0, s.1, composes text before s.0 rest s.1 reads_rest s.2, s.3, omega (arith, spelled-append before s.0, s.4)) in
      (m, subst (λ r. MatchOption r (StopsReading text m) (λ place. m ≡ place)) (sym h.good) read, omega (arith, start_is))

  bracket_fault : (f : ComponentFault) → HasFaultFrom p.at rest f → HasBracketFault p.text f
  bracket_fault f b = (
    pieces_all done ++ b.pieces,
    record { read = (h.good, reads_behind b.pieces [] b.read); placed = all_placed b.pieces b.placed },
    bracket_fault_behind (pieces_all done) h.paired b.pieces (length p.text) f (subst (λ (end : ℕ). IsBracketFault b.pieces end f) end_is b.found),
  )

  by_fault : (f : ComponentFault) → IsFaultFrom p.at rest f → IsFirstFault p.text f
  by_fault (Syntax o) (inl s) = inl (stops_behind o s.0 s.1 s.2)
  by_fault (Syntax o) (inr b) = inr (bracket_fault (Syntax o) b)
  by_fault (Depth o) b = bracket_fault (Depth o) b
  by_fault Memory b = tt

  -- the first fault
  pub first_fault_of : (f : ComponentFault) → IsFaultBehind [] rest p.at f → IsFirstFault p.text f
  first_fault_of f b = by_fault f (b p.at rest (begins_nothing rest p.at))
