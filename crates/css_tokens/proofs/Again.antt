-- A text is read again as the words that it was made of.
use Rattle.std.proofs.Common.{◌≡◌, ℕ, ◌+◌, ◌≤◌, List, [], ◌∷◌, ◌++◌, length, drop, Bool, true, false, not, ◌&&◌, ◌||◌, ◌⊎◌, ltb, refl, sym, inl, inr, ap, ap₂, ◌∙◌, subst, Some, is_some, arith, codes, ltb-false, eq-eqb}
use Rattle.std.proofs.lemmas.Bool.{cases_Bool, and_parts, and_from, both_ways, not-false}
use Rattle.std.proofs.lemmas.List.{map-append}
use Rattle.std.specs.Char.{to_ascii_lowercase}
use Rattle.std.specs.Option.{option_map}
use Rattle.std.specs.List.{AllByRecursion, list_any}
use Rattle.css_tokens.specs.declared.class.Class.{Class}
use Rattle.css_tokens.specs.declared.kind.Kind.{Kind}
use Rattle.css_tokens.specs.declared.kind.Kind.TheVariants as kind
use Rattle.css_tokens.specs.declared.machine.State.{State}
use Rattle.css_tokens.specs.declared.machine.State.TheVariants as state
use Rattle.css_tokens.specs.declared.machine.Holder.TheVariants as holder
use Rattle.css_tokens.specs.Characters.{place_of, class_of, has, white, is_class}
use Rattle.css_tokens.specs.Kinds.{starts, begins}
use Rattle.css_tokens.specs.Private.Machine.{next, ended}
use Rattle.css_tokens.specs.Piece.{Word}
use Rattle.css_tokens.specs.Tokens.{ReadsTo, classes_of, is_url, quote_follows, as_front}
use Rattle.css_tokens.specs.Again.{StaysFirst, is_odd, is_stop, Alike, KeepsQuote, is_solid, takes, word_from, marks}
use Rattle.css_tokens.proofs.Derivatives.{is_class-eq}
use Rattle.css_tokens.proofs.Fronts.{longest_in, longest_in-nil, longest_in-step, longest_in-dead}
use Rattle.css_tokens.proofs.Firsts.{is_ruled, ByTable, AsUrl, by_table, as_url, first_cases}
use Rattle.css_tokens.proofs.Kept.{kept, state_takes, state_takes_first}
use Rattle.css_tokens.proofs.MachineStates.{implied, each_state, each_step}
use Rattle.css_tokens.proofs.Runs.{run, one_more, reach, reached, longest-ended, ended_aside, found_later, same_inside}
use Rattle.css_tokens.proofs.Takes.{state_takes-word}
use Rattle.css_tokens.proofs.UrlNames.{classes_length, end_longest, url_found}

-- a front and what follows it, by classes
classes_append : (a b : List ℕ) → classes_of (a ++ b) ≡ classes_of a ++ classes_of b
classes_append a b = map-append class_of a b

pub comes_to : (s : State) (u a : List ℕ) (k : Kind) → longest_in s (classes_of (u ++ a)) ≡ Some (k, length u) → longest_in (run s (classes_of u)) (classes_of a) ≡ Some (k, 0)
comes_to s u a k h = reach s (classes_of u) (classes_of a) k (ap (longest_in s) (sym (classes_append u a)) ∙ h ∙ ap (λ (n : ℕ). Some (k, n)) (sym (classes_length u)))

pub comes_from : (s : State) (u a : List ℕ) (k : Kind) → longest_in (run s (classes_of u)) (classes_of a) ≡ Some (k, 0) → longest_in s (classes_of (u ++ a)) ≡ Some (k, length u)
comes_from s u a k h = ap (longest_in s) (classes_append u a) ∙ reached s (classes_of u) (classes_of a) k h ∙ ap (λ (n : ℕ). Some (k, n)) (classes_length u)

alike_classes : (a b : List ℕ) → Alike a b → (c l r : List Class) × (classes_of a ≡ c ++ l) × (classes_of b ≡ c ++ r) × (is_odd false c ≡ false) × (is_stop r ≡ true)
alike_classes a b h = (
  classes_of h.same,
  classes_of h.left,
  classes_of h.right,
  ap classes_of h.whole_left ∙ classes_append h.same h.left,
  ap classes_of h.whole_right ∙ classes_append h.same h.right,
  h.even,
  h.stop_right,
)

pub kept_alike : (s : State) (a b : List ℕ) (k : Kind) → is_solid k ≡ true → Alike a b → state_takes_first s (classes_of b) ≡ false → longest_in s (classes_of a) ≡ Some (k, 0) → longest_in s (classes_of b) ≡ Some (k, 0)
kept_alike s a b k e h g f =
    let c = alike_classes a b h in
    ap (longest_in s) c.4 ∙ kept s c.0 c.1 c.2 k e c.5 (ap (state_takes_first s) (sym c.4) ∙ g) c.6 (ap (longest_in s) (sym c.3) ∙ f)

-- letters in any case
lowered : (b n : ℕ) → to_ascii_lowercase b ≡ n → (b ≡ n) ⊎ ((b + 32 ≡ n) × (65 ≤ b))
lowered b n h =
    elim (cases_Bool (ltb b 65)) [
      | inl e ↦ inl (rw e at h)
      | inr e ↦ elim (cases_Bool (ltb b 91)) [
        | inl f ↦ inr (let g = rw e at h in rw f at g, ltb-false b 65 e)
        | inr f ↦ inl (let g = rw e at h in rw f at g)
      ]
    ]

pub lowered_class : (b n m : ℕ) (c : Class) → m + 32 ≡ n → class_of n ≡ c → class_of m ≡ c → to_ascii_lowercase b ≡ n → class_of b ≡ c
lowered_class b n m c e f g h =
    elim (lowered b n h) [
      | inl i ↦ ap class_of i ∙ f
      | inr i ↦ let k = i.0 in let j : b ≡ m = omega arith in ap class_of j ∙ g
    ]

pub head_tail : (x y : ℕ) (xs ys : List ℕ) → x ∷ xs ≡ y ∷ ys → (x ≡ y) × (xs ≡ ys)
head_tail x y xs ys h = (cc, cc)

-- the inside of a Url
abbrev in_url_state : State → Bool
in_url_state state.UrlStart = true
in_url_state state.UrlWhite = true
in_url_state state.UrlText = true
in_url_state state.UrlAfter = true
in_url_state (state.Escaped holder.UrlText e) = true
in_url_state (state.End k) = true
in_url_state state.Dead = true
in_url_state s = false

abbrev at_white : State → Bool
at_white state.UrlStart = true
at_white state.UrlWhite = true
at_white s = false

abbrev goes_white : State → Class → Bool
goes_white s x = at_white s && has white x

white_stays : (s : State) (x : Class) → at_white s ≡ true → has white x ≡ true → at_white (next s x) ≡ true
white_stays s x e h = implied (goes_white s x) (at_white (next s x)) (and_from (at_white s) (has white x) e h) (each_step (λ r c. not (goes_white r c) || at_white (next r c)) refl s x)

white_open : (s : State) (after : List Class) (k : Kind) → at_white s ≡ true → ended s after ≡ Some k → ⊥
white_open state.UrlStart after k e h = cc
white_open state.UrlWhite after k e h = cc
white_open s after k e h = cc

quote_inside : (s : State) (i a b : List Class) (k : Kind) → at_white s ≡ true → longest_in s (i ++ a) ≡ Some (k, length i) → quote_follows (i ++ b) ≡ quote_follows (i ++ a)
quote_inside s [] a b k e h = absurd (white_open s a k e (longest-ended s a k h))
quote_inside s (x ∷ i) a b k e h =
    elim (cases_Bool (has white x)) [
      | inl w ↦ rw w (quote_inside (next s x) i a b k (white_stays s x e w) (found_later (longest_in (next s x) (i ++ a)) (ended s (x ∷ i ++ a)) k (length i) (sym (longest_in-step s x (i ++ a)) ∙ h)))
      | inr w ↦ rw w
    ]

url_step : (s : State) (x : Class) → in_url_state s ≡ true → in_url_state (next s x) ≡ true
url_step s x h = implied (in_url_state s) (in_url_state (next s x)) h (each_step (λ r c. not (in_url_state r) || in_url_state (next r c)) refl s x)

url_run : (s : State) (t : List Class) → in_url_state s ≡ true → in_url_state (run s t) ≡ true
url_run s [] h = h
url_run s (x ∷ t) h = url_run (next s x) t (url_step s x h)

abbrev pub is_end : State → Bool
is_end (state.End k) = true
is_end s = false

pub is_end-eq : (s : State) (k : Kind) → is_end s ≡ true → ended s [] ≡ Some k → s ≡ state.End k
is_end-eq (state.End j) k h e = ap state.End (same_inside j k e)
is_end-eq s k h e = cc

abbrev ends_whole : State → Bool
ends_whole s = not (is_some (ended s [])) || is_end s

url_end : (s : State) (after : List Class) (k : Kind) → in_url_state s ≡ true → ended s after ≡ Some k → s ≡ state.End k
url_end s after k e h =
    let f = ended_aside s after k h in
    is_end-eq s k (implied (is_some (ended s [])) (is_end s) (ap is_some f) (implied (in_url_state s) (ends_whole s) e (each_state (λ r. not (in_url_state r) || ends_whole r) refl s))) f

quote_kept : (a b : List ℕ) → KeepsQuote a b → not (quote_follows (classes_of a)) ≡ false → not (quote_follows (classes_of b)) ≡ false
quote_kept a b q h = ap not (q (not-false (quote_follows (classes_of a)) h))

pub ruled_kept : (u a b : List ℕ) → (is_url u ≡ true → KeepsQuote a b) → is_ruled u a ≡ false → is_ruled u b ≡ false
ruled_kept u a b q h =
    elim (cases_Bool (is_url u)) [
      | inl e ↦ let g : not (quote_follows (classes_of a)) ≡ false = rw e at h in rw e (quote_kept a b (q e) g)
      | inr e ↦ rw e
    ]

table_kept : (w : Word) (a b : List ℕ) → is_solid w.kind ≡ true → Alike a b → (is_url w.text ≡ true → KeepsQuote a b) → takes w b ≡ false → ByTable w a → ByTable w b
table_kept w a b s h q n t =
    let r = run state.Start (classes_of w.text) in
    let f = comes_to state.Start w.text a w.kind t.found in
    let e = ended_aside r (classes_of a) w.kind (longest-ended r (classes_of a) w.kind f) in
    record {
      found = comes_from state.Start w.text b w.kind (kept_alike r a b w.kind s h (state_takes-word w b e s ∙ n) f);
      ruled = ruled_kept w.text a b q t.ruled;
    }

pub url_kept : (w : Word) (a b : List ℕ) → AsUrl w a → AsUrl w b
url_kept w a b u =
    let p = and_parts (is_url u.name) (not (quote_follows (classes_of (u.inside ++ a)))) u.ruled in
    let i = classes_of u.inside in
    let r = run state.UrlStart i in
    let c = comes_to state.UrlStart u.inside a w.kind u.closed in
    let g = longest-ended r (classes_of a) w.kind c in
    let end = url_end r (classes_of a) w.kind (url_run state.UrlStart i refl) g in
    let q : quote_follows (classes_of (u.inside ++ b)) ≡ quote_follows (classes_of (u.inside ++ a)) =
    ap quote_follows (classes_append u.inside b)
    ∙ quote_inside state.UrlStart i (classes_of a) (classes_of b) w.kind refl (ap (longest_in state.UrlStart) (sym (classes_append u.inside a)) ∙ u.closed ∙ ap (λ (n : ℕ). Some (w.kind, n)) (sym (classes_length u.inside)))
    ∙ ap quote_follows (sym (classes_append u.inside a)) in
    record {
      kind = kind.Function;
      name = u.name;
      inside = u.inside;
      whole = u.whole;
      found = url_found u.name (u.inside ++ b) p.0;
      ruled = and_from (is_url u.name) (not (quote_follows (classes_of (u.inside ++ b)))) p.0 (ap not q ∙ p.1);
      closed = comes_from state.UrlStart u.inside b w.kind (ap (λ s. longest_in s (classes_of b)) end ∙ end_longest w.kind (classes_of b));
    }

-- a token that is neither white space nor a comment stays first where what follows it changes behind a stop, unless it takes what then follows
pub keeps : (w : Word) (a b : List ℕ) → is_solid w.kind ≡ true → StaysFirst w a → Alike a b → (is_url w.text ≡ true → KeepsQuote a b) → takes w b ≡ false → StaysFirst w b
keeps w a b s f h q n =
    elim (first_cases w a f) [
      | inl t ↦ by_table w b (table_kept w a b s h q n t)
      | inr u ↦ as_url w b (url_kept w a b u)
    ]

-- readings compose
pub composes : (t : List ℕ) (xs ys : List Word) (s r : List ℕ) → ReadsTo t xs s → ReadsTo s ys r → ReadsTo t (xs ++ ys) r
composes t [] ys s r f g = subst (λ u. ReadsTo u ys r) (sym f) g
composes t (x ∷ xs) ys s r f g = (f.0, f.1, composes (drop (length x.text) t) xs ys s r f.2 g)

-- the words that stay first before any text
pub ended_mark : (u : List ℕ) (k : Kind) → run state.Start (classes_of u) ≡ state.End k → is_url u ≡ false → (rest : List ℕ) → StaysFirst (word_from k u) rest
ended_mark u k e f rest = by_table (word_from k u) rest (record {
  found = comes_from state.Start u rest k (ap (λ s. longest_in s (classes_of rest)) e ∙ end_longest k (classes_of rest));
  ruled = ap (λ b. b && not (quote_follows (classes_of rest))) f;
})

pub marks_stay : AllByRecursion (λ w. (rest : List ℕ) → StaysFirst w rest) marks
marks_stay = (
  ended_mark (codes "{") kind.Open refl refl,
  (
    ended_mark (codes "}") kind.Close refl refl,
    (
      ended_mark (codes "(") kind.Open refl refl,
      (
        ended_mark (codes ")") kind.Close refl refl,
        (
          ended_mark (codes "[") kind.Open refl refl,
          (
            ended_mark (codes "]") kind.Close refl refl,
            (
              ended_mark (codes ":") kind.Colon refl refl,
              (
                ended_mark (codes ";") kind.Semicolon refl refl,
                (
                  ended_mark (codes ",") kind.Comma refl refl,
                  (
                    ended_mark (codes ">") kind.Delim refl refl,
                    (
                      ended_mark (codes "*") kind.Delim refl refl,
                      (
                        ended_mark (codes "~") kind.Delim refl refl,
                        (
                          ended_mark (codes "!") kind.Delim refl refl,
                          (
                            ended_mark (codes "&") kind.Delim refl refl,
                            (
                              ended_mark (codes "=") kind.Delim refl refl,
                              (
                                ended_mark (codes "|") kind.Delim refl refl,
                                (
                                  ended_mark (codes "^") kind.Delim refl refl,
                                  (
                                    ended_mark (codes "$") kind.Delim refl refl,
                                    (ended_mark (codes "/**/") kind.Comment refl refl, tt),
                                  ),
                                ),
                              ),
                            ),
                          ),
                        ),
                      ),
                    ),
                  ),
                ),
              ),
            ),
          ),
        ),
      ),
    ),
  ),
)

-- the words that stay first where what follows does not go on with them
abbrev pub dies_at : State → List Class → Type 0
dies_at s set = (x : Class) → has set x ≡ false → state_takes s x ≡ false → next s x ≡ state.Dead

is_class-refl : (c : Class) → is_class c c ≡ true
is_class-refl c = eq-eqb (place_of c) (place_of c) refl

swapped : (c x : Class) → is_class c x ≡ false → is_class x c ≡ false
swapped c x h =
    elim (cases_Bool (is_class x c)) [
      | inl e ↦ let f = is_class-eq x c e in absurd (both_ways (is_class c x) h (ap (λ d. is_class c d) f ∙ is_class-refl c))
      | inr e ↦ e
    ]

pub begun : (set : List Class) (x : Class) (t : List Class) → begins set (x ∷ t) ≡ false → has set x ≡ false
begun [] x t h = refl
begun (c ∷ set) x t h =
    elim (cases_Bool (is_class c x)) [
      | inl e ↦ let g = rw e at h in cc
      | inr e ↦ let g : list_any (starts (x ∷ t)) set ≡ false = rw e at h in
          ap₂ ◌||◌ (swapped c x e) (begun set x t g)
    ]

pub none_next : (s : State) (set : List Class) (k : Kind) → dies_at s set → ended s [] ≡ Some k → ((after : List Class) → ended s after ≡ ended s []) → (t : List Class) → begins set t ≡ false → state_takes_first s t ≡ false → longest_in s t ≡ Some (k, 0)
none_next s set k d e f [] h g = longest_in-nil s ∙ ap (option_map (as_front 0)) e
none_next s set k d e f (x ∷ t) h g =
    longest_in-step s x t
    ∙ ap₂ one_more (ap (λ r. longest_in r t) (d x (begun set x t h) g) ∙ longest_in-dead t) (f (x ∷ t) ∙ e)
