-- A text reads in one way, or reading stops at one place.
use Rattle.std.proofs.Common.{◌≡◌, ℕ, suc, zero, ◌+◌, List, [], ◌∷◌, ◌++◌, length, take, drop, Bool, true, false, not, ◌&&◌, inl, inr, refl, sym, ap, ap₂, ◌∙◌, subst, Option, Some, None, MatchOption, add-one, add_comm}
use Rattle.std.proofs.Math.Seq.{take-add}
use Rattle.std.proofs.lemmas.Bool.{cases_Bool, and_parts, and_from, both_ways}
use Rattle.std.specs.List.{list_all}
use Rattle.std.specs.Option.{option_map}
use Rattle.css_tokens.specs.declared.class.Class.TheVariants as class
use Rattle.css_tokens.specs.declared.kind.Kind.{Kind}
use Rattle.css_tokens.specs.declared.machine.State.{State}
use Rattle.css_tokens.specs.declared.machine.State.TheVariants as state
use Rattle.css_tokens.specs.Characters.{class_of}
use Rattle.css_tokens.specs.Kinds.{table, url_table}
use Rattle.css_tokens.specs.Private.Machine.{next, ended}
use Rattle.css_tokens.specs.Piece.{Word, spelled}
use Rattle.css_tokens.specs.Tokens.{First, ReadsTo, Reads, Stops, StopsAt, StopsReading, after_mark, bad_place, mark_length, first_front, front_of, url_rule, word, longer, as_front, or_else, classes_of, is_refused, is_url, quote_follows, is_control}
use Rattle.css_tokens.proofs.Derivatives.{is_class-eq}
use Rattle.css_tokens.proofs.MachineStates.{is_dead, is_dead-eq, each_state}
use Rattle.css_tokens.proofs.Fronts.{longest_in, longest_in-step, longest_in-dead}
use Rattle.css_tokens.proofs.Reading.{mapped, chained}

pub first_one : (t : List ℕ) (v w : Word) → First t v → First t w → v ≡ w
first_one t v w f g = let e = sym f ∙ g in cc

nothing_first : (w : Word) → First [] w → ⊥
nothing_first w f = cc

nothing_stops : Stops [] → ⊥
nothing_stops (inl s) = s
nothing_stops (inr s) = nothing_first s.0 s.1

not_stopped : (t : List ℕ) (w : Word) → First t w → is_refused w.kind ≡ false → Stops t → ⊥
not_stopped [] w f r h = cc
not_stopped (b ∷ t) w f r (inl s) = let e = ap (option_map (word (b ∷ t))) s in cc
not_stopped (b ∷ t) w f r (inr s) = both_ways (is_refused w.kind) r (ap (λ (v : Word). is_refused v.kind) (first_one (b ∷ t) w s.0 f s.1) ∙ s.2)

-- two readings of a text are one
pub reads_one : (t : List ℕ) (a b : List Word) → ReadsTo t a [] → ReadsTo t b [] → a ≡ b
reads_one t [] [] f g = refl
reads_one t [] (w ∷ ws) f g = absurd (nothing_first w (subst (λ s. First s w) f g.0))
reads_one t (v ∷ vs) [] f g = absurd (nothing_first v (subst (λ s. First s v) g f.0))
reads_one t (v ∷ vs) (w ∷ ws) f g =
    let e = first_one t v w f.0 g.0 in
    ap₂ ◌∷◌ e (reads_one (drop (length v.text) t) vs ws f.2 (subst (λ (u : Word). ReadsTo (drop (length u.text) t) ws []) (sym e) g.2))

-- reading stops at one place
stops_one : (t : List ℕ) (a b : List Word) (r s : List ℕ) → ReadsTo t a r → Stops r → ReadsTo t b s → Stops s → a ≡ b
stops_one t [] [] r s f h g k = refl
stops_one t [] (w ∷ ws) r s f h g k = absurd (not_stopped t w g.0 g.1 (subst Stops (sym f) h))
stops_one t (v ∷ vs) [] r s f h g k = absurd (not_stopped t v f.0 f.1 (subst Stops (sym g) k))
stops_one t (v ∷ vs) (w ∷ ws) r s f h g k =
    let e = first_one t v w f.0 g.0 in
    ap₂ ◌∷◌ e (stops_one (drop (length v.text) t) vs ws r s f.2 h (subst (λ (u : Word). ReadsTo (drop (length u.text) t) ws s) (sym e) g.2) k)

-- and not in a text that reads
reads_not_stops : (t : List ℕ) (a b : List Word) (s : List ℕ) → ReadsTo t a [] → ReadsTo t b s → Stops s → ⊥
reads_not_stops t [] [] s f g k = nothing_stops (subst Stops (sym g ∙ f) k)
reads_not_stops t [] (w ∷ ws) s f g k = nothing_first w (subst (λ u. First u w) f g.0)
reads_not_stops t (v ∷ vs) [] s f g k = not_stopped t v f.0 f.1 (subst Stops (sym g) k)
reads_not_stops t (v ∷ vs) (w ∷ ws) s f g k =
    let e = first_one t v w f.0 g.0 in
    reads_not_stops (drop (length v.text) t) vs ws s f.2 (subst (λ (u : Word). ReadsTo (drop (length u.text) t) ws s) (sym e) g.2) k

places_one : (t : List ℕ) (r : Option ℕ) (o p : ℕ) → MatchOption r (StopsReading t o) (λ place. o ≡ place) → MatchOption r (StopsReading t p) (λ place. p ≡ place) → o ≡ p
places_one t (Some q) o p h k = h ∙ sym k
places_one t None o p h k = h.4 ∙ ap (λ ws. length (spelled ws)) (stops_one t h.0 k.0 h.1 k.1 h.2 h.3 k.2 k.3) ∙ sym k.4

pub stops_at_one : (t : List ℕ) (o p : ℕ) → StopsAt t o → StopsAt t p → o ≡ p
stops_at_one t o p h k = h.2 ∙ ap (λ (n : ℕ). mark_length t + n) (places_one (after_mark t) (bad_place (after_mark t)) h.0 k.0 h.1 k.1) ∙ sym k.2

-- no token has a control character
abbrev pub is_clean : List ℕ → Bool
is_clean t = list_all (λ b. not (is_control b)) t

pub dead_control : (s : State) → next s class.Control ≡ state.Dead
dead_control s = is_dead-eq (next s class.Control) (each_state (λ r. is_dead (next r class.Control)) refl s)

same_inside : {A : Type 0} (a b : A) → Some a ≡ Some b → a ≡ b
same_inside a b h = cc

clean_more : (b : ℕ) (t : List ℕ) (m : ℕ) (k : Kind) (found : Option (Kind × ℕ)) (here : Option Kind) → (is_control b ≡ true → found ≡ None) → ((j : Kind) (n : ℕ) → found ≡ Some (j, n) → is_clean (take n t) ≡ true) →
    or_else (option_map (longer 1) found) (option_map (as_front 0) here) ≡ Some (k, m) → is_clean (take m (b ∷ t)) ≡ true
clean_more b t m k None None d h e = cc
clean_more b t m k None (Some j) d h e = let z : 0 ≡ m = ap (λ (x : Kind × ℕ). x.1) (same_inside (j, 0) (k, m) e) in subst (λ n. is_clean (take n (b ∷ t)) ≡ true) z refl
clean_more b t m k (Some f) here d h e =
    let z : f.1 + 1 ≡ m = ap (λ (x : Kind × ℕ). x.1) (same_inside (longer 1 f) (k, m) e) in
    let s : suc f.1 ≡ m = sym (add-one f.1) ∙ z in
    elim (cases_Bool (is_control b)) [
      | inl c ↦ let n = d c in cc
      | inr c ↦ subst (λ n. is_clean (take n (b ∷ t)) ≡ true) s (and_from (not (is_control b)) (is_clean (take f.1 t)) (ap not c) (h f.0 f.1 refl))
    ]

longest_clean : (s : State) (t : List ℕ) (k : Kind) (n : ℕ) → longest_in s (classes_of t) ≡ Some (k, n) → is_clean (take n t) ≡ true
longest_clean s [] k zero h = refl
longest_clean s [] k (suc n) h = refl
longest_clean s (b ∷ t) k n h =
    clean_more b t n k (longest_in (next s (class_of b)) (classes_of t)) (ended s (class_of b ∷ classes_of t))
    (λ c. ap (λ x. longest_in (next s x) (classes_of t)) (sym (is_class-eq class.Control (class_of b) c)) ∙ ap (λ r. longest_in r (classes_of t)) (dead_control s) ∙ longest_in-dead (classes_of t))
    (λ j m e. longest_clean (next s (class_of b)) t j m e)
    (sym (longest_in-step s (class_of b) (classes_of t)) ∙ h)

clean_append : (a b : List ℕ) → is_clean a ≡ true → is_clean b ≡ true → is_clean (a ++ b) ≡ true
clean_append [] b h k = k
clean_append (x ∷ a) b h k = let p = and_parts (not (is_control x)) (is_clean a) h in and_from (not (is_control x)) (is_clean (a ++ b)) p.0 (clean_append a b p.1 k)

url_clean : (t : List ℕ) (f g : Kind × ℕ) → is_clean (take f.1 t) ≡ true → url_rule t f ≡ Some g → is_clean (take g.1 t) ≡ true
url_clean t f g p h =
    elim (cases_Bool (is_url (take f.1 t) && not (quote_follows (classes_of (drop f.1 t))))) [
      | inl e ↦
          let m = mapped (longer f.1) (front_of url_table (drop f.1 t)) g (rw e at h) in
          let z : f.1 + m.0.1 ≡ g.1 = add_comm f.1 m.0.1 ∙ ap (λ (x : Kind × ℕ). x.1) m.2 in
          subst (λ n. is_clean (take n t) ≡ true) z
          (subst (λ u. is_clean u ≡ true) (sym (take-add f.1 m.0.1 t))
          (clean_append (take f.1 t) (take m.0.1 (drop f.1 t)) p (longest_clean state.UrlStart (drop f.1 t) m.0.0 m.0.1 m.1)))
      | inr e ↦ let i : Some f ≡ Some g = rw e at h in let j : f ≡ g = cc in subst (λ (x : Kind × ℕ). is_clean (take x.1 t) ≡ true) j p
    ]

first_clean : (t : List ℕ) (w : Word) → First t w → is_clean w.text ≡ true
first_clean t w h =
    let m = mapped (word t) (first_front t) w h in
    let c = chained (url_rule t) (front_of table t) m.0 m.1 in
    subst (λ (v : Word). is_clean v.text ≡ true) m.2
    (url_clean t c.0 m.0 (longest_clean state.Start t c.0.0 c.0.1 c.1) c.2)

pub words_clean : (t : List ℕ) (ws : List Word) (r : List ℕ) → ReadsTo t ws r → is_clean (spelled ws) ≡ true
words_clean t [] r h = refl
words_clean t (w ∷ ws) r h = clean_append w.text (spelled ws) (first_clean t w h.0) (words_clean (drop (length w.text) t) ws r h.2)

-- a text that reads has no fault
pub reads_or_stops : (t : List ℕ) (ws : List Word) (o : ℕ) → Reads t ws → StopsAt t o → ⊥
reads_or_stops t ws o h k =
    let u = after_mark t in
    let s : StopsReading u k.0 = subst (λ r. MatchOption r (StopsReading u k.0) (λ place. k.0 ≡ place)) h.0 k.1 in
    reads_not_stops u ws s.0 s.1 h.1 s.2 s.3
