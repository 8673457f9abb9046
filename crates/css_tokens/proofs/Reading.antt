-- Reading a text token by token.
use Rattle.std.proofs.Common.{◌≡◌, ℕ, suc, zero, ◌+◌, ◌-◌, ◌^◌, ◌<◌, ◌≤◌, List, [], ◌∷◌, ◌++◌, map, length, take, drop, true, false, not, ◌&&◌, inl, inr, refl, sym, ap, ap₂, ◌∙◌, subst, Option, Some, None, IfOk, IfErr, Result, Ok, Err, MatchOption, arith, append_assoc, append-nil, length-append, take-append-drop}
use Rattle.std.proofs.lemmas.Bool.{cases_Bool}
use Rattle.std.proofs.lemmas.List.{map_push}
use Rattle.std.proofs.lemmas.List.Concat.{flat_map-append}
use Rattle.std.specs.Str.{IsCharBoundary}
use Rattle.std.specs.Option.{option_map, option_and_then}
use Rattle.css_tokens.specs.declared.class.Class.{Class}
use Rattle.css_tokens.specs.declared.kind.Kind.{Kind}
use Rattle.css_tokens.specs.declared.machine.State.TheVariants as state
use Rattle.css_tokens.specs.Kinds.{table, url_table}
use Rattle.css_tokens.specs.Private.Machine.{next}
use Rattle.css_tokens.specs.Piece.{Piece, Word, word_of, spelled}
use Rattle.css_tokens.specs.Tokens.{First, Reads, ReadsTo, IsPlaced, first_front, front_of, url_rule, word, longer, or_else, classes_of, is_refused, is_url, quote_follows, after_mark, bad_place, mark_length, Stops, StopsAt, StopsBehind, StopsReading}
use Rattle.css_tokens.specs.Private.Reading.{Begins, IsReadingFault}
use Rattle.css_tokens.specs.Faults.{IsFault, RefusesAt}
use Rattle.css_tokens.specs.declared.reader.TokenFault.{TokenFault}
use Rattle.css_tokens.specs.declared.reader.TokenFault.TheVariants.{Syntax, Memory}
use Rattle.css_tokens.proofs.Fronts.{longest_in, longest_in-nil, longest_in-step}

-- an option that was changed into a value was one
pub mapped : {A B : Type 0} (f : A → B) (o : Option A) (b : B) → option_map f o ≡ Some b → (a : A) × (o ≡ Some a) × (f a ≡ b)
mapped f None b h = cc
mapped f (Some a) b h = (a, refl, cc)

pub chained : {A B : Type 0} (f : A → Option B) (o : Option A) (b : B) → option_and_then f o ≡ Some b → (a : A) × (o ≡ Some a) × (f a ≡ Some b)
chained f None b h = cc
chained f (Some a) b h = (a, refl, h)

later_positive : (found : Option (Kind × ℕ)) (f : Kind × ℕ) → or_else (option_map (longer 1) found) None ≡ Some f → 0 < f.1
later_positive None f h = cc
later_positive (Some g) f h = let e : longer 1 g ≡ f = cc in subst (λ (x : Kind × ℕ). 0 < x.1) e (omega arith)

-- no kind of the table is spelled by nothing
pub start_positive : (t : List Class) (f : Kind × ℕ) → longest_in state.Start t ≡ Some f → 0 < f.1
start_positive [] f h = let e = longest_in-nil state.Start in cc
start_positive (x ∷ t) f h = later_positive (longest_in (next state.Start x) t) f (sym (longest_in-step state.Start x t) ∙ h)

url_positive : (text : List ℕ) (f g : Kind × ℕ) → 0 < f.1 → url_rule text f ≡ Some g → 0 < g.1
url_positive text f g p h =
    elim (cases_Bool (is_url (take f.1 text) && not (quote_follows (classes_of (drop f.1 text))))) [
      | inl e ↦
          let m = mapped (longer f.1) (front_of url_table (drop f.1 text)) g (rw e at h) in
          subst (λ (x : Kind × ℕ). 0 < x.1) m.2 (omega arith)
      | inr e ↦ let i : Some f ≡ Some g = rw e at h in let j : f ≡ g = cc in subst (λ (x : Kind × ℕ). 0 < x.1) j p
    ]

pub first_positive : (text : List ℕ) (f : Kind × ℕ) → first_front text ≡ Some f → 0 < f.1
first_positive text f h =
    let c = chained (url_rule text) (front_of table text) f h in
    url_positive text c.0 f (start_positive (classes_of text) c.0 c.1) c.2

drop_front : (n : ℕ) (t : List ℕ) → drop (length (take n t)) t ≡ drop n t
drop_front zero t = refl
drop_front (suc n) [] = refl
drop_front (suc n) (x ∷ t) = drop_front n t

-- a first token is a front of the text
pub first_front-whole : (text : List ℕ) (w : Word) → First text w → text ≡ w.text ++ drop (length w.text) text
first_front-whole text w h =
    let m = mapped (word text) (first_front text) w h in
    subst (λ (v : Word). text ≡ v.text ++ drop (length v.text) text) m.2
    (sym (ap (λ t. take m.0.1 text ++ t) (drop_front m.0.1 text) ∙ take-append-drop m.0.1 text))

pub reads_whole : (text : List ℕ) (ws : List Word) (rest : List ℕ) → ReadsTo text ws rest → text ≡ spelled ws ++ rest
reads_whole text [] rest h = h
reads_whole text (w ∷ ws) rest h =
    first_front-whole text w h.0
    ∙ ap (λ t. w.text ++ t) (reads_whole (drop (length w.text) text) ws rest h.2)
    ∙ sym (append_assoc w.text (spelled ws) rest)

-- one more token read
pub reads_more : (text : List ℕ) (ws : List Word) (rest : List ℕ) (w : Word) → ReadsTo text ws rest → First rest w → is_refused w.kind ≡ false → ReadsTo text (ws ++ w ∷ []) (drop (length w.text) rest)
reads_more text [] rest w h f r = (subst (λ t. First t w) (sym h) f, r, ap (λ t. drop (length w.text) t) h)
reads_more text (v ∷ vs) rest w h f r = (h.0, h.1, reads_more (drop (length v.text) text) vs rest w h.2 f r)

pub reads_more_pieces : (text : List ℕ) (ps : List Piece) (rest : List ℕ) (p : Piece) → ReadsTo text (map word_of ps) rest → First rest (word_of p) → is_refused p.kind ≡ false → ReadsTo text (map word_of (ps ++ p ∷ [])) (drop (length p.text) rest)
reads_more_pieces text ps rest p h f r = subst (λ ws. ReadsTo text ws (drop (length p.text) rest)) (sym (map_push word_of ps p)) (reads_more text (map word_of ps) rest (word_of p) h f r)

-- the bytes of some pieces
abbrev pub size : List Piece → ℕ
size ps = length (spelled (map word_of ps))

pub size-push : (ps : List Piece) (p : Piece) → size (ps ++ p ∷ []) ≡ size ps + length p.text
size-push ps p =
    ap (λ ws. length (spelled ws)) (map_push word_of ps p)
    ∙ ap length (flat_map-append (λ (w : Word). w.text) (map word_of ps) (word_of p ∷ []))
    ∙ length-append (spelled (map word_of ps)) (p.text ++ [])
    ∙ ap (λ t. size ps + length t) (append-nil p.text)

size-cons : (q : Piece) (ps : List Piece) → size (q ∷ ps) ≡ length q.text + size ps
size-cons q ps = length-append q.text (spelled (map word_of ps))

pub placed_more : (at : ℕ) (ps : List Piece) (p : Piece) → IsPlaced at ps → p.at ≡ at + size ps → IsPlaced at (ps ++ p ∷ [])
placed_more at [] p h e = (e ∙ omega arith, tt)
placed_more at (q ∷ ps) p h e = (h.0, placed_more (at + length q.text) ps p h.1 (e ∙ omega (arith, size-cons q ps)))

abbrev word_from : Kind → List ℕ → Word
word_from k t = record { kind = k; text = t }

-- what the first front of a text says
pub begins_by : (text : List ℕ) (k : Kind) (n : ℕ) (p : Piece) → Some (k, n) ≡ first_front text → n ≤ length text → is_refused k ≡ false → p.kind ≡ k → p.text ≡ take n text → length p.text ≡ n → IsCharBoundary text n → Begins text p
begins_by text k n p h w r e f g b = record {
  first = ap (option_map (word text)) (sym h) ∙ ap Some (ap₂ (λ (a : Kind) (t : List ℕ). word_from a t) (sym e) (sym f));
  read = ap is_refused e ∙ r;
  whole = omega arith;
  some = let s = first_positive text (k, n) (sym h) in omega (arith, s);
  cut = subst (IsCharBoundary text) (sym g) b;
}

pub stops_by : (text : List ℕ) (k : Kind) (n : ℕ) → Some (k, n) ≡ first_front text → is_refused k ≡ true → Stops text
stops_by text k n h r = inr (word text (k, n), ap (option_map (word text)) (sym h), r)

-- the turn of the loop over tokens
pub reads_size : (text : List ℕ) (ps : List Piece) (rest : List ℕ) → ReadsTo text (map word_of ps) rest → size ps + length rest ≡ length text
reads_size text ps rest h = sym (ap length (reads_whole text (map word_of ps) rest h) ∙ length-append (spelled (map word_of ps)) rest)

pub turn_fits : (start : ℕ) (text : List ℕ) (ps : List Piece) (rest : List ℕ) (p : Piece) (at n : ℕ) → start + length text < 2 ^ 32 - 1 → ReadsTo text (map word_of ps) rest → Begins rest p → at ≡ start + size ps → n ≡ length p.text → at + n < 2 ^ 32
turn_fits start text ps rest p at n s h b e f = let r = reads_size text ps rest h in let w = b.whole in omega arith

pub turn_reads : (text : List ℕ) (ps qs : List Piece) (rest left : List ℕ) (p : Piece) (n : ℕ) → ReadsTo text (map word_of ps) rest → Begins rest p → qs ≡ ps ++ p ∷ [] → n ≡ length p.text → left ≡ drop n rest → ReadsTo text (map word_of qs) left
turn_reads text ps qs rest left p n h b e f g =
    subst (λ r. ReadsTo text (map word_of qs) r) (sym (g ∙ ap (λ m. drop m rest) f))
    (subst (λ ts. ReadsTo text (map word_of ts) (drop (length p.text) rest)) (sym e) (reads_more_pieces text ps rest p h b.first b.read))

pub turn_placed : (start : ℕ) (ps qs : List Piece) (p : Piece) (at : ℕ) → IsPlaced start ps → at ≡ start + size ps → p.at ≡ at → qs ≡ ps ++ p ∷ [] → IsPlaced start qs
turn_placed start ps qs p at h s e f = subst (λ ts. IsPlaced start ts) (sym f) (placed_more start ps p h (e ∙ s))

pub turn_size : (start : ℕ) (ps qs : List Piece) (p : Piece) (at n : ℕ) → at ≡ start + size ps → n ≡ length p.text → qs ≡ ps ++ p ∷ [] → at + n ≡ start + size qs
turn_size start ps qs p at n s f e = let z = size-push ps p in let y = ap size e in omega arith

-- Faults of the whole text.

pub stops_at_bad : (text : List ℕ) (mark at o : ℕ) → mark ≡ mark_length text → bad_place (drop mark text) ≡ Some at → o ≡ mark + at → StopsAt text o
stops_at_bad text mark at o e h f = (
  at,
  subst (λ (m : ℕ). StopsBehind (drop m text) at) e (subst (λ r. MatchOption r (StopsReading (drop mark text) at) (λ place. at ≡ place)) (sym h) refl),
  f ∙ ap (λ (m : ℕ). m + at) e,
)

fault_of : (text read : List ℕ) (mark : ℕ) (e : TokenFault) → mark ≡ mark_length text → read ≡ drop mark text → bad_place (drop mark text) ≡ None → IsReadingFault mark read e → IsFault text e
fault_of text read mark (Syntax o) m f n h =
    let s : StopsBehind (drop mark text) h.0 = subst (λ r. MatchOption r (StopsReading (drop mark text) h.0) (λ place. h.0 ≡ place)) (sym n) (subst (λ t. StopsReading t h.0) f h.1) in
    (h.0, subst (λ (k : ℕ). StopsBehind (drop k text) h.0) m s, h.2 ∙ ap (λ (k : ℕ). k + h.0) m)
fault_of text read mark Memory m f n h = tt

module _ (text read : List ℕ) (mark : ℕ) (is_mark : mark ≡ mark_length text) (is_read : read ≡ drop mark text) (is_good : bad_place (drop mark text) ≡ None) where
  pub faults_of : {A : Type 0} (r : Result A TokenFault) → IfErr r (λ e. IsReadingFault mark read e) → IfErr r (λ e. IsFault text e)
  faults_of (Ok a) h = tt
  faults_of (Err e) h = fault_of text read mark e is_mark is_read is_good h

  pub reads_of : (r : Result (List Piece) TokenFault) → IfOk r (λ ts. ReadsTo read (map word_of ts) []) → IfOk r (λ ts. Reads text (map word_of ts))
  reads_of (Ok ts) h =
      let e : read ≡ after_mark text = is_read ∙ ap (λ (k : ℕ). drop k text) is_mark in
      (ap (λ (k : ℕ). bad_place (drop k text)) (sym is_mark) ∙ is_good, subst (λ t. ReadsTo t (map word_of ts) []) e h)
  reads_of (Err e) h = tt

  pub whole_of : (r : Result (List Piece) TokenFault) → IfOk r (λ ts. ReadsTo read (map word_of ts) []) → IfOk r (λ ts. spelled (map word_of ts) ≡ after_mark text)
  whole_of (Ok ts) h = sym (reads_whole read (map word_of ts) [] h ∙ append-nil (spelled (map word_of ts))) ∙ is_read ∙ ap (λ (k : ℕ). drop k text) is_mark
  whole_of (Err e) h = tt

-- a fault that a text has is the one that is answered
pub named_by : (text : List ℕ) (r : Result (List Piece) TokenFault) → ((ws : List Word) (o : ℕ) → Reads text ws → StopsAt text o → ⊥) → ((o p : ℕ) → StopsAt text o → StopsAt text p → o ≡ p) → IfOk r (λ ts. Reads text (map word_of ts)) → IfErr r (λ e. IsFault text e) → (o : ℕ) → StopsAt text o → RefusesAt r o
named_by text (Ok ts) never one h k o s = never (map word_of ts) o h s
named_by text (Err (Syntax p)) never one h k o s = one p o k s
named_by text (Err Memory) never one h k o s = tt
