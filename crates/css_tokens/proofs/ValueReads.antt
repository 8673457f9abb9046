-- The printed text of a value reads as its words.
use Rattle.std.proofs.Common.{◌≡◌, ℕ, List, [], ◌∷◌, ◌++◌, length, drop, Bool, true, false, not, ◌&&◌, ◌||◌, nat_eq, cond, ◌<◌, refl, sym, inl, inr, ap, ap₂, ◌∙◌, subst, Some, arith, append-nil, append_assoc, length-append, codes}
use Rattle.std.proofs.Math.Seq.{drop-append_seam}
use Rattle.std.proofs.lemmas.Bool.{cases_Bool, and_parts, both_ways, eqb-true, not-false, not-true}
use Rattle.std.proofs.lemmas.List.{append_cancel_left, append_cancel_right, map-append}
use Rattle.std.proofs.lemmas.List.Concat.{flat_map-append}
use Rattle.std.specs.List.{list_all}
use Rattle.css_tokens.specs.declared.class.Class.{Class}
use Rattle.css_tokens.specs.declared.component.Component.{Component}
use Rattle.css_tokens.specs.declared.component.Component as component
use Rattle.css_tokens.specs.declared.component.Block.{Block}
use Rattle.css_tokens.specs.declared.kind.Kind.{Kind}
use Rattle.css_tokens.specs.declared.kind.Kind.TheVariants as kind
use Rattle.css_tokens.specs.declared.class.Class.TheVariants as class
use Rattle.css_tokens.specs.declared.machine.State.{State}
use Rattle.css_tokens.specs.declared.machine.State.TheVariants as state
use Rattle.css_tokens.specs.Characters.{class_of, has, white}
use Rattle.css_tokens.specs.Private.Machine.{next, ended}
use Rattle.css_tokens.specs.Piece.{Piece, Word, word_of, spelled}
use Rattle.css_tokens.specs.Tokens.{First, ReadsTo, classes_of, is_refused, is_url, names, quote_follows, spells}
use Rattle.css_tokens.specs.Trees.{is_text, opens, closing, words_all, is_formed, is_formed-Single, is_formed-Block, all_formed}
use Rattle.css_tokens.specs.Again.{StaysFirst, Alike, begins_none, is_odd, is_stop, is_solid, takes}
use Rattle.css_tokens.specs.Kinds.{begins, is_kind, kind_of, table}
use Rattle.css_tokens.specs.Private.Pendings.{may_take}
use Rattle.css_tokens.specs.Values.{is_white, is_gap, takes_space, short_word, shortened_words, value_words, value_text}
use Rattle.css_tokens.proofs.Again.{comes_from, comes_to, keeps, ended_mark}
use Rattle.css_tokens.proofs.Boundaries.{lasting_found, none_later}
use Rattle.css_tokens.proofs.Kept.{has_solid, state_takes}
use Rattle.css_tokens.proofs.PartedChain.{Near, NearChain, Parts, chain_parted}
use Rattle.css_tokens.proofs.PartedWords.{open_takes_none}
use Rattle.css_tokens.proofs.Takes.{state_takes-word}
use Rattle.css_tokens.proofs.TakesSpace.{never_takes, not_gap}
use Rattle.css_tokens.proofs.Within.{first_some}
use Rattle.css_tokens.proofs.UrlNames.{url_found}
use Rattle.css_tokens.proofs.AgainLemmas.{words_of, words_of-Single}
use Rattle.css_tokens.proofs.Beginnings.{Quotes, is_dark, quotes_front, quotes_behind, gap_quotes, gap_stops, dark_begins, dark_none, none_white, url_ended}
use Rattle.css_tokens.proofs.Firsts.{AsUrl, by_table, first_cases}
use Rattle.css_tokens.proofs.GapLemmas.{not_white, is_gap-kept}
use Rattle.css_tokens.proofs.PrintedAgain.{IsShort, short-short, shortened_short, takes_solid}
use Rattle.css_tokens.proofs.Rebuilt.{both}
use Rattle.css_tokens.proofs.Runs.{run, kind_of-run, one_more, longest-ended, ended_aside, same_inside}
use Rattle.css_tokens.proofs.Evens.{first_even, odd-append}
use Rattle.css_tokens.proofs.Fronts.{longest_in, longest_in-step, longest_in-dead}
use Rattle.css_tokens.proofs.MachineStates.{implied, is_dead, is_dead-eq, is_kind-eq, each_class, each_state}
use Rattle.css_tokens.proofs.Spelling.{first_spells, inside_spelled}
use Rattle.css_tokens.proofs.Stays.{space_stays, not_function}
use Rattle.css_tokens.proofs.TreeInduction.{Each, by_trees}
use Rattle.css_tokens.proofs.ValueLemmas.{space, comment}
use Rattle.css_tokens.proofs.Walk.{Chain, Keeps, kept_short, short_gap, chain_shortened}
use Rattle.css_tokens.proofs.WritingLemmas.{words_all-cons, words_of-Block}

-- a first token that is read
abbrev pub ReadFirst : List ℕ → Word → Type 0
ReadFirst t w = First t w × (is_refused w.kind ≡ false)

-- reading is a chain of first tokens
pub chain_of : (ws : List Word) (s : List ℕ) → ReadsTo (spelled ws ++ s) ws s → Chain ReadFirst ws s
chain_of [] s h = tt
chain_of (w ∷ ws) s h =
    let e = append_assoc w.text (spelled ws) s in
    let f : First (w.text ++ (spelled ws ++ s)) w = subst (λ t. First t w) e h.0 in
    let g : ReadsTo (spelled ws ++ s) ws s = subst (λ t. ReadsTo t ws s) (ap (drop (length w.text)) e ∙ drop-append_seam w.text (spelled ws ++ s)) h.2 in
    ((f, h.1), chain_of ws s g)

pub reads_of : (ws : List Word) (s : List ℕ) → Chain ReadFirst ws s → ReadsTo (spelled ws ++ s) ws s
reads_of [] s h = refl
reads_of (w ∷ ws) s h =
    let e = append_assoc w.text (spelled ws) s in
    let f : First (spelled (w ∷ ws) ++ s) w = subst (λ t. First t w) (sym e) h.0.0 in
    let g : ReadsTo (drop (length w.text) (spelled (w ∷ ws) ++ s)) ws s = subst (λ t. ReadsTo t ws s) (sym (ap (drop (length w.text)) e ∙ drop-append_seam w.text (spelled ws ++ s))) (reads_of ws s h.1) in
    (f, h.0.1, g)

spelled-append : (xs ys : List Word) → spelled (xs ++ ys) ≡ spelled xs ++ spelled ys
spelled-append xs ys = flat_map-append (λ (w : Word). w.text) xs ys

joined_text : (xs ys : List Word) (s : List ℕ) → spelled (xs ++ ys) ++ s ≡ spelled xs ++ (spelled ys ++ s)
joined_text xs ys s = ap (λ t. t ++ s) (spelled-append xs ys) ∙ append_assoc (spelled xs) (spelled ys) s

chain_left : (xs ys : List Word) (s : List ℕ) → Chain ReadFirst (xs ++ ys) s → Chain ReadFirst xs (spelled ys ++ s)
chain_left [] ys s h = tt
chain_left (x ∷ xs) ys s h = (subst (λ t. ReadFirst (x.text ++ t) x) (joined_text xs ys s) h.0, chain_left xs ys s h.1)

chain_right : (xs ys : List Word) (s : List ℕ) → Chain ReadFirst (xs ++ ys) s → Chain ReadFirst ys s
chain_right [] ys s h = h
chain_right (x ∷ xs) ys s h = chain_right xs ys s h.1

-- a reading splits
pub reads_left : (xs ys : List Word) (s : List ℕ) → ReadsTo (spelled (xs ++ ys) ++ s) (xs ++ ys) s → ReadsTo (spelled xs ++ (spelled ys ++ s)) xs (spelled ys ++ s)
reads_left xs ys s h = reads_of xs (spelled ys ++ s) (chain_left xs ys s (chain_of (xs ++ ys) s h))

pub reads_right : (xs ys : List Word) (s : List ℕ) → ReadsTo (spelled (xs ++ ys) ++ s) (xs ++ ys) s → ReadsTo (spelled ys ++ s) ys s
reads_right xs ys s h = reads_of ys s (chain_right xs ys s (chain_of (xs ++ ys) s h))

pub each_spells : (t : List ℕ) (ws : List Word) (s : List ℕ) → ReadsTo t ws s → list_all (λ (w : Word). spells w.kind w.text) ws ≡ true
each_spells t [] s h = refl
each_spells t (w ∷ ws) s h = ap (λ b. b && list_all (λ (v : Word). spells v.kind v.text) ws) (first_spells t w h.0) ∙ each_spells (drop (length w.text) t) ws s h.2

-- the Function `url(` stands before a quote
nil_of : (l : List ℕ) → length l ≡ 0 → l ≡ []
nil_of [] h = refl
nil_of (x ∷ l) h = absurd (omega arith)

never_url : (w : Word) (a : List ℕ) (u : AsUrl w a) → is_url w.text ≡ true → ⊥
never_url w a u h =
    let p = and_parts (is_url u.name) _ u.ruled in
    let e : longest_in state.Start (classes_of (w.text ++ a)) ≡ Some (kind.Function, length u.name) = ap (λ t. longest_in state.Start (classes_of t)) (ap (λ t. t ++ a) u.whole ∙ append_assoc u.name u.inside a) ∙ url_found u.name (u.inside ++ a) p.0 in
    let n : length w.text ≡ length u.name = ap (λ (x : Kind × ℕ). x.1) (same_inside (kind.Function, length w.text) (kind.Function, length u.name) (sym (url_found w.text a h) ∙ e)) in
    let l : length u.inside ≡ 0 = omega (arith, n, length-append u.name u.inside, ap length u.whole) in
    not_open w.kind (classes_of a) (subst (λ (t : List ℕ). ended (run state.UrlStart (classes_of t)) (classes_of a) ≡ Some w.kind) (nil_of u.inside l) (url_ended w a u))
  where
    not_open : (k : Kind) (after : List Class) → ended state.UrlStart after ≡ Some k → ⊥
    not_open k after h = cc

url_word : (w : Word) (a : List ℕ) → StaysFirst w a → is_url w.text ≡ true → (w.kind ≡ kind.Function) × Quotes a
url_word w a f h =
    elim (first_cases w a f) [
      | inl t ↦ (
        ap (λ (x : Kind × ℕ). x.0) (same_inside (w.kind, length w.text) (kind.Function, length w.text) (sym t.found ∙ url_found w.text a h)),
        not-false (quote_follows (classes_of a)) (ap (λ b. b && not (quote_follows (classes_of a))) (sym h) ∙ t.ruled),
      )
      | inr u ↦ absurd (never_url w a u h)
    ]

-- what a block opens is closed within the value
abbrev Closes : List Word → Type 0
Closes [] = Unit {0}
Closes (w ∷ ws) = (w.kind ≡ kind.Function → is_dark (classes_of (spelled ws)) ≡ true) × Closes ws

any_more : (c d : List Class) → is_dark c ≡ true → is_dark (c ++ d) ≡ true
any_more [] d h = cc
any_more (x ∷ c) d h =
    elim (cases_Bool (has white x)) [
      | inl e ↦ let g : is_dark c ≡ true = rw e at h in rw e (any_more c d g)
      | inr e ↦ rw e
    ]

any_behind : (c d : List Class) → is_dark d ≡ true → is_dark (c ++ d) ≡ true
any_behind [] d h = h
any_behind (x ∷ c) d h =
    elim (cases_Bool (has white x)) [
      | inl e ↦ rw e (any_behind c d h)
      | inr e ↦ rw e
    ]

closes_more : (xs ys : List Word) → Closes xs → Closes ys → Closes (xs ++ ys)
closes_more [] ys h k = k
closes_more (x ∷ xs) ys h k = (
  λ e. ap (λ t. is_dark (classes_of t)) (spelled-append xs ys) ∙ ap is_dark (map-append class_of (spelled xs) (spelled ys)) ∙ any_more (classes_of (spelled xs)) (classes_of (spelled ys)) (h.0 e),
  closes_more xs ys h.1 k,
)

closing_dark : (a b : Bool) → is_dark (classes_of (cond a (codes "]") (cond b (codes "}") (codes ")")) ++ [])) ≡ true
closing_dark true true = refl
closing_dark true false = refl
closing_dark false true = refl
closing_dark false false = refl

dark_end : (opening : Piece) (close : ℕ) → is_dark (classes_of (spelled (word_of (closing opening close) ∷ []))) ≡ true
dark_end opening close = closing_dark (is_text opening.text (codes "[")) (is_text opening.text (codes "{"))

abbrev ClosesFormed : Component → Type 0
ClosesFormed c = is_formed c ≡ true → Closes (words_of c)

single_closes : (p : Piece) → ClosesFormed (component.Single p)
single_closes p h =
    let f = both (not (opens p.kind)) _ (sym (is_formed-Single p) ∙ h) in
    subst Closes (sym (words_of-Single p)) (λ e. absurd (opens_function p.kind f.0 e), tt)
  where
    opens_function : (k : Kind) → not (opens k) ≡ true → k ≡ kind.Function → ⊥
    opens_function k h e = both_ways (not (opens k)) (ap (λ j. not (opens j)) e) h

all_close : (cs : List Component) → Each ClosesFormed cs → all_formed cs ≡ true → Closes (words_all cs)
all_close [] each h = tt
all_close (c ∷ cs) each h =
    let f = both (is_formed c) (all_formed cs) h in
    subst Closes (sym (words_all-cons c cs)) (closes_more (words_of c) (words_all cs) (each.0 f.0) (all_close cs each.1 f.1))

block_closes : (opening : Piece) (items : List Component) (close : ℕ) → Each ClosesFormed items → ClosesFormed (component.Block (record { opening = opening; items = items; close = close }))
block_closes opening items close each h =
    let b : Block = record { opening = opening; items = items; close = close } in
    let f = both (opens opening.kind) (all_formed items) (sym (is_formed-Block b) ∙ h) in
    let last : List Word = word_of (closing opening close) ∷ [] in
    subst Closes (sym (words_of-Block b)) (
      λ e. ap (λ t. is_dark (classes_of t)) (spelled-append (words_all items) last)
          ∙ ap is_dark (map-append class_of (spelled (words_all items)) (spelled last))
          ∙ any_behind (classes_of (spelled (words_all items))) (classes_of (spelled last)) (dark_end opening close),
      closes_more (words_all items) last (all_close items each f.1) (λ e. cc, tt),
    )

each_closes : (cs : List Component) → Each ClosesFormed cs
each_closes [] = tt
each_closes (c ∷ cs) = (by_trees ClosesFormed single_closes block_closes c, each_closes cs)

formed_closes : (v : List Component) → all_formed v ≡ true → Closes (words_all v)
formed_closes v h = all_close v (each_closes v) h

-- A word that is read within a value, before s: the quote behind a Function `url(` is the value's own.
record InValue (s : List ℕ) (t : List ℕ) (w : Word) : Type 0 where
  pub first : First t w
  pub read : is_refused w.kind ≡ false
  pub quote : is_url w.text ≡ true → (u : List ℕ) × (t ≡ w.text ++ (u ++ s)) × Quotes u

in_value : (ws : List Word) (s : List ℕ) → Closes ws → Chain ReadFirst ws s → Chain (InValue s) ws s
in_value [] s c h = tt
in_value (w ∷ ws) s c h =
    let here : InValue s (w.text ++ (spelled ws ++ s)) w = record {
      first = h.0.0;
      read = h.0.1;
      quote = λ u. let k = url_word w (spelled ws ++ s) h.0.0 u in (spelled ws, refl, quotes_front (spelled ws) s (c.0 k.0) k.1);
    } in
    (here, in_value ws s c.1 h.1)

-- White space at the start of a printed text is a space.
abbrev is_spaced : List ℕ → Bool
is_spaced [] = true
is_spaced (b ∷ t) = not (has white (class_of b)) || nat_eq b 32

dark_spaced : (t : List ℕ) → begins_none white t ≡ true → is_spaced t ≡ true
dark_spaced [] h = refl
dark_spaced (b ∷ t) h = ap (λ x. x || nat_eq b 32) (spaced_class (class_of b) (classes_of t) h)
  where
    spaced_class : (x : Class) (t : List Class) → not (begins white (x ∷ t)) ≡ true → not (has white x) ≡ true
    spaced_class x t h = implied (not (begins white (x ∷ t))) (not (has white x)) h (each_class (λ c. not (not (begins white (c ∷ t))) || not (has white c)) refl x)

-- and that a word does not take
space_only : (w : Word) (b : List ℕ) → is_gap w.kind ≡ false → takes_space w ≡ false → is_spaced b ≡ true → takes w b ≡ false
space_only w [] g n h = refl
space_only w (c ∷ b) g n h =
    elim (cases_Bool (has white (class_of c))) [
      | inr e ↦ ap (λ x. x && names w.kind (kind_of table (classes_of (w.text ++ c ∷ [])) [])) e
      | inl e ↦
          let i = eqb-true c 32 (sym (ap (λ x. not x || nat_eq c 32) e) ∙ h) in
          subst (λ (x : ℕ). takes w (x ∷ b) ≡ false) (sym i) (sym (ap (λ x. not x && takes w (codes " ")) g) ∙ n)
    ]

-- or that is dark
pub dark_takes : (w : Word) (b : List ℕ) → begins_none white b ≡ true → takes w b ≡ false
dark_takes w [] h = refl
dark_takes w (c ∷ b) h =
    elim (cases_Bool (has white (class_of c))) [
      | inr e ↦ ap (λ x. x && names w.kind (kind_of table (classes_of (w.text ++ c ∷ [])) [])) e
      | inl e ↦ absurd (both_ways (begins white (classes_of (c ∷ b))) (not-true (begins white (classes_of (c ∷ b))) h) (white_begins (class_of c) (classes_of b) e))
    ]
  where
    white_begins : (x : Class) (t : List Class) → has white x ≡ true → begins white (x ∷ t) ≡ true
    white_begins x t h = implied (has white x) (begins white (x ∷ t)) h (each_class (λ c. not (has white c) || begins white (c ∷ t)) refl x)

-- The old text from here on and the new one are alike, and a quote that comes in the value's own part comes in the new one.
record AlikeIn (s : List ℕ) (a b : List ℕ) : Type 0 where
  pub alike : Alike a b
  pub spaced : is_spaced b ≡ true
  pub front : List ℕ
  pub whole : a ≡ front ++ s
  pub quote : Quotes front → Quotes b

stops_alike : (a b : List ℕ) → is_stop (classes_of a) ≡ true → is_stop (classes_of b) ≡ true → Alike a b
stops_alike a b h k = record { same = []; left = a; right = b; whole_left = refl; whole_right = refl; even = refl; stop_left = h; stop_right = k }

behind_alike : (t a b : List ℕ) → is_odd false (classes_of t) ≡ false → Alike a b → Alike (t ++ a) (t ++ b)
behind_alike t a b e h = record {
  same = t ++ h.same;
  left = h.left;
  right = h.right;
  whole_left = ap (λ x. t ++ x) h.whole_left ∙ sym (append_assoc t h.same h.left);
  whole_right = ap (λ x. t ++ x) h.whole_right ∙ sym (append_assoc t h.same h.right);
  even = ap (is_odd false) (map-append class_of t h.same) ∙ odd-append false (classes_of t) (classes_of h.same) ∙ ap (λ b. is_odd b (classes_of h.same)) e ∙ h.even;
  stop_left = h.stop_left;
  stop_right = h.stop_right;
}

abbrev StopsBefore : List ℕ → Word → Type 0
StopsBefore b g = is_stop (classes_of (g.text ++ b)) ≡ true

short_stops : (g : Word) (b : List ℕ) → is_gap g.kind ≡ true → IsShort g → StopsBefore b g
short_stops g b e h = elim (short_gap g e h) [
  | inl i ↦ subst (StopsBefore b) (sym i) refl
  | inr i ↦ subst (StopsBefore b) (sym i) refl
]

short_spaced : (g : Word) (b : List ℕ) → is_gap g.kind ≡ true → IsShort g → is_spaced (g.text ++ b) ≡ true
short_spaced g b e h = elim (short_gap g e h) [
  | inl i ↦ subst (λ (v : Word). is_spaced (v.text ++ b) ≡ true) (sym i) refl
  | inr i ↦ subst (λ (v : Word). is_spaced (v.text ++ b) ≡ true) (sym i) refl
]

word_spaced : (w : Word) (a b : List ℕ) → is_gap w.kind ≡ false → StaysFirst w a → is_spaced (w.text ++ b) ≡ true
word_spaced w a b g f =
    let d = dark_begins w a f (not_white w.kind g) in
    dark_spaced (w.text ++ b) (ap (λ c. not (begins white c)) (map-append class_of w.text b ∙ ap (λ c. c ++ classes_of b) d.2) ∙ none_white d.0 (d.1 ++ classes_of b) d.3)

-- a short gap before a quote is a space
short_quotes : (g : Word) (b : List ℕ) → is_gap g.kind ≡ true → IsShort g → Quotes (g.text ++ b) → Quotes b
short_quotes g b e h q = elim (short_gap g e h) [
  | inl i ↦ let r : Quotes (space.text ++ b) = subst (λ (v : Word). Quotes (v.text ++ b)) i q in r
  | inr i ↦ let r : Quotes (comment.text ++ b) = subst (λ (v : Word). Quotes (v.text ++ b)) i q in cc
]

white_quotes : (w y : Word) (b : List ℕ) → is_white w.kind ≡ true → Quotes b → Quotes ((cond (is_white w.kind) (short_word w) y).text ++ b)
white_quotes w y b e q =
    let i : (cond (is_white w.kind) (short_word w) y).text ≡ codes " " = ap (λ c. (cond c (short_word w) y).text) e ∙ ap (λ c. cond c (codes " ") (cond (is_gap w.kind) (codes "/**/") w.text)) e in
    subst (λ (t : List ℕ). Quotes (t ++ b)) (sym i) q

gap_short : (w : Word) → is_gap w.kind ≡ true → is_gap (short_word w).kind ≡ true
gap_short w e = e

-- What stays near.

url_kind : (w : Word) (a : List ℕ) → AsUrl w a → w.kind ≡ kind.Url
url_kind w a u =
    let i = classes_of u.inside in
    (inside_spelled i w.kind (kind_of-run state.UrlStart i [] ∙ ended_aside (run state.UrlStart i) (classes_of a) w.kind (url_ended w a u))).0

abbrev dies_at_slash : State → Bool
dies_at_slash s = not (has_solid (ended s []) && state_takes s class.Blank) || is_dead (next s class.Slash)

taken_ended : (s : State) (after : List Class) → state_takes s class.Blank ≡ true → ended s after ≡ ended s []
taken_ended state.Slash after h = cc
taken_ended s after h = refl

slash_longest : (s : State) (t : List Class) (k : Kind) → ended s [] ≡ Some k → is_solid k ≡ true → state_takes s class.Blank ≡ true → longest_in s (class.Slash ∷ t) ≡ Some (k, 0)
slash_longest s t k e h n =
    let d = is_dead-eq (next s class.Slash) (implied (has_solid (ended s []) && state_takes s class.Blank) _ (ap₂ ◌&&◌ (ap has_solid e ∙ h) n) (each_state dies_at_slash refl s)) in
    longest_in-step s class.Slash t
    ∙ ap₂ one_more (ap (λ r. longest_in r t) d ∙ longest_in-dead t) (taken_ended s (class.Slash ∷ t) n ∙ e)

no_function : (w : Word) → takes_space w ≡ true → is_kind w.kind kind.Function ≡ false
no_function w e = elim (cases_Bool (is_kind w.kind kind.Function)) [
  | inr f ↦ f
  | inl f ↦ absurd (both_ways (takes_space w) (open_takes_none w kind.Function (is_kind-eq w.kind kind.Function f) refl) e)
]

pub solid_kind : (k : Kind) → is_gap k ≡ false → is_solid k ≡ true
solid_kind kind.White e = cc
solid_kind kind.Comment e = cc
solid_kind _ e = refl

-- a word that takes a space stays before a comment
comment_behind : (w : Word) (a b : List ℕ) → is_gap w.kind ≡ false → takes_space w ≡ true → StaysFirst w a → StaysFirst w (codes "/**/" ++ b)
comment_behind w a b g e f =
    elim (first_cases w a f) [
      | inr u ↦ absurd (both_ways (takes_space w) (never_takes w.kind w.text (ap may_take (url_kind w a u))) e)
      | inl t ↦
          let s = run state.Start (classes_of w.text) in
          let here = ended_aside s (classes_of a) w.kind (longest-ended s (classes_of a) w.kind (comes_to state.Start w.text a w.kind t.found)) in
          let taken : state_takes s class.Blank ≡ true = state_takes-word w (codes " ") here (solid_kind w.kind g) ∙ (and_parts (not (is_gap w.kind)) (takes w (codes " ")) e).1 in
          let none : is_url w.text ≡ false = not_function w.text w.kind (no_function w e) here in
          let rest = codes "/**/" ++ b in
          by_table w rest (record {
            found = comes_from state.Start w.text rest w.kind (slash_longest s (classes_of (codes "**/" ++ b)) w.kind here (solid_kind w.kind g) taken);
            ruled = ap (λ x. x && not (quote_follows (classes_of rest))) none;
          })
    ]

abbrev NearFirst : List ℕ → Word → Type 0
NearFirst t w = (b : List ℕ) × (t ≡ w.text ++ b) × Near ReadFirst w b

comment_read : (a : List ℕ) → ReadFirst (codes "/**/" ++ a) comment
comment_read a = (ended_mark (codes "/**/") kind.Comment refl refl a, refl)

near_gap : (w : Word) (a : List ℕ) → is_gap w.kind ≡ true → ReadFirst (w.text ++ a) w → NearFirst (w.text ++ a) w
near_gap w a g f = (a, refl, (λ e. absurd (both_ways (takes_space w) (not_gap w g) e), λ e. f, λ e. f))

word_dark : (w : Word) (a b : List ℕ) → is_gap w.kind ≡ false → StaysFirst w a → begins_none white (w.text ++ b) ≡ true
word_dark w a b g f =
    let d = dark_begins w a f (not_white w.kind g) in
    ap (λ c. not (begins white c)) (map-append class_of w.text b ∙ ap (λ c. c ++ classes_of b) d.2) ∙ none_white d.0 (d.1 ++ classes_of b) d.3

near_dark : (w : Word) (a : List ℕ) → is_gap w.kind ≡ false → NearFirst (w.text ++ a) w → begins_none white (w.text ++ a) ≡ true
near_dark w a g n = elim (cases_Bool (takes_space w)) [
  | inl e ↦ word_dark w (codes "/**/" ++ n.0) a g (n.2.0 e).0
  | inr e ↦ word_dark w n.0 a g (n.2.1 e).0
]

near_chain : (ws : List Word) (r : List ℕ) → Chain NearFirst ws r → NearChain ReadFirst ws r
near_chain [] r h = tt
near_chain (w ∷ ws) r h = (subst (Near ReadFirst w) (append_cancel_left w.text h.0.0 (spelled ws ++ r) (sym h.0.1)) h.0.2, near_chain ws r h.1)

-- What the words with comments between keep.
record AlikeOn (a b : List ℕ) : Type 0 where
  pub alike : Alike a b
  pub quote : Quotes a → Quotes b
  pub spaced : is_spaced b ≡ true

on_spaced : (w : Word) (b c : List ℕ) → IsShort w → StaysFirst w c → is_spaced (w.text ++ b) ≡ true
on_spaced w b c i f = elim (cases_Bool (is_gap w.kind)) [
  | inl g ↦ short_spaced w b g i
  | inr g ↦ word_spaced w c b g f
]

dark_word : (w : Word) (c : List ℕ) → is_gap w.kind ≡ false → StaysFirst w c → is_dark (classes_of w.text) ≡ true
dark_word w c g f = let d = dark_begins w c f (not_white w.kind g) in ap is_dark d.2 ∙ ap (λ b. not b || is_dark d.1) d.3

quotes_on : (t a b : List ℕ) → is_dark (classes_of t) ≡ true → Quotes (t ++ a) → Quotes (t ++ b)
quotes_on t a b h q = quotes_behind t [] b (λ z. cc) (subst Quotes (sym (append-nil t)) (quotes_front t a h q))

same_begins : (t a b : List ℕ) → 0 < length t → begins_none white (t ++ a) ≡ true → begins_none white (t ++ b) ≡ true
same_begins [] a b l h = absurd (omega arith)
same_begins (x ∷ t) a b l h = h

-- white space goes on with white space
abbrev pub is_state_white : State → Bool
is_state_white state.White = true
is_state_white s = false

pub state_white-eq : (s : State) → is_state_white s ≡ true → s ≡ state.White
state_white-eq state.White h = refl
state_white-eq s h = cc

pub white_none : (c : List Class) → longest_in state.White c ≡ Some (kind.White, 0) → not (begins white c) ≡ true
white_none [] h = refl
white_none (x ∷ c) h = elim (cases_Bool (has white x)) [
  | inr e ↦ none_white x c e
  | inl e ↦
      let s = state_white-eq (next state.White x) (implied (has white x) (is_state_white (next state.White x)) e (each_class (λ y. not (has white y) || is_state_white (next state.White y)) refl x)) in
      absurd (lasting_found state.White c refl (ap (λ r. longest_in r c) (sym s) ∙ none_later (longest_in (next state.White x) c) (ended state.White (x ∷ c)) kind.White (sym (longest_in-step state.White x c) ∙ h)))
]

space_dark : (a : List ℕ) → StaysFirst space a → begins_none white a ≡ true
space_dark a f = elim (first_cases space a f) [
  | inl t ↦ white_none (classes_of a) (comes_to state.Start (codes " ") a kind.White t.found)
  | inr u ↦ let e = url_kind space a u in cc
]

on_keeps : (w : Word) (a b : List ℕ) → IsShort w → ReadFirst (w.text ++ a) w → AlikeOn a b → (begins_none white a ≡ true → begins_none white b ≡ true) → (takes_space w ≡ true → begins_none white b ≡ true) → ReadFirst (w.text ++ b) w
on_keeps w a b i f h d e = elim (cases_Bool (is_gap w.kind)) [
  | inl g ↦ elim (short_gap w g i) [
    | inl z ↦
        let first : ReadFirst (space.text ++ a) space = subst (λ (v : Word). ReadFirst (v.text ++ a) v) z f in
        let stays : ReadFirst (space.text ++ b) space = (space_stays b (d (space_dark a first.0)), refl) in
        subst (λ (v : Word). ReadFirst (v.text ++ b) v) (sym z) stays
    | inr z ↦ subst (λ (v : Word). ReadFirst (v.text ++ b) v) (sym z) (comment_read b)
  ]
  | inr g ↦
      let none : takes w b ≡ false = elim (cases_Bool (takes_space w)) [ inl t ↦ dark_takes w b (e t) | inr t ↦ space_only w b g t h.spaced ] in
      (keeps w a b (solid_kind w.kind g) f.0 h.alike (λ u. h.quote) none, f.1)
]

module _ (s r : List ℕ) (stop_s : is_stop (classes_of s) ≡ true) (stop_r : is_stop (classes_of r) ≡ true) (dark_r : begins_none white r ≡ true) where
  front_whole : (w : Word) (a : List ℕ) (f : List ℕ) → a ≡ f ++ s → w.text ++ a ≡ (w.text ++ f) ++ s
  front_whole w a f e = ap (λ t. w.text ++ t) e ∙ sym (append_assoc w.text f s)

  shorter : (w : Word) (a b : List ℕ) → is_gap w.kind ≡ true → InValue s (w.text ++ a) w → AlikeIn s a b → AlikeIn s (w.text ++ a) ((short_word w).text ++ b)
  shorter w a b g f h = record {
    alike = stops_alike (w.text ++ a) ((short_word w).text ++ b) (gap_stops w a g f.first) (short_stops (short_word w) b g (short-short w));
    spaced = short_spaced (short_word w) b g (short-short w);
    front = w.text ++ h.front;
    whole = front_whole w a h.front h.whole;
    quote = λ q. let p = gap_quotes w a h.front g f.first q in subst (λ (t : List ℕ). Quotes (t ++ b)) (sym (ap (λ c. cond c (codes " ") (cond (is_gap w.kind) (codes "/**/") w.text)) p.0)) (h.quote p.1);
  }

  merged : (w y : Word) (a b : List ℕ) → is_gap w.kind ≡ true → is_gap y.kind ≡ true → IsShort y → InValue s (w.text ++ a) w → AlikeIn s a (y.text ++ b) → AlikeIn s (w.text ++ a) ((cond (is_white w.kind) (short_word w) y).text ++ b)
  merged w y a b g e i f h =
      let k : Word = cond (is_white w.kind) (short_word w) y in
      let k_gap : is_gap k.kind ≡ true = is_gap-kept (λ (v : Word). v.kind) (short_word w) y g e in
      let k_short : IsShort k = kept_short (is_white w.kind) (short_word w) y (short-short w) i in
      record {
        alike = stops_alike (w.text ++ a) (k.text ++ b) (gap_stops w a g f.first) (short_stops k b k_gap k_short);
        spaced = short_spaced k b k_gap k_short;
        front = w.text ++ h.front;
        whole = front_whole w a h.front h.whole;
        quote = λ q. let p = gap_quotes w a h.front g f.first q in white_quotes w y b p.0 (short_quotes y b e i (h.quote p.1));
      }

  dropped : (w : Word) (a : List ℕ) → is_gap w.kind ≡ true → InValue s (w.text ++ a) w → AlikeIn s a r → AlikeIn s (w.text ++ a) r
  dropped w a g f h = record {
    alike = stops_alike (w.text ++ a) r (gap_stops w a g f.first) stop_r;
    spaced = dark_spaced r dark_r;
    front = w.text ++ h.front;
    whole = front_whole w a h.front h.whole;
    quote = λ q. h.quote (gap_quotes w a h.front g f.first q).1;
  }

  own_quote : (w : Word) (a b : List ℕ) → InValue s (w.text ++ a) w → AlikeIn s a b → is_url w.text ≡ true → Quotes b
  own_quote w a b f h u =
      let p = f.quote u in
      let e : a ≡ p.0 ++ s = append_cancel_left w.text a (p.0 ++ s) p.1 in
      let i : p.0 ≡ h.front = append_cancel_right p.0 h.front s (sym e ∙ h.whole) in
      h.quote (subst Quotes i p.2)

  kept : (w : Word) (a b : List ℕ) → is_gap w.kind ≡ false → InValue s (w.text ++ a) w → AlikeIn s a b → NearFirst (w.text ++ b) w
  kept w a b g f h =
      let stays : takes w b ≡ false → ReadFirst (w.text ++ b) w = λ n. (keeps w a b (solid_kind w.kind g) f.first h.alike (λ u q. own_quote w a b f h u) n, f.read) in (
        b,
        refl,
        (
          λ e. (comment_behind w a b g e f.first, f.read),
          λ e. stays (space_only w b g e h.spaced),
          λ d. stays (dark_takes w b d),
        ),
      )

  keeps_value : Keeps (InValue s) NearFirst (AlikeIn s) s r
  keeps_value = record {
    end = record { alike = stops_alike s r stop_s stop_r; spaced = dark_spaced r dark_r; front = []; whole = refl; quote = λ q. cc };
    behind = λ w a b g f h. record { alike = behind_alike w.text a b (first_even w a f.first) h.alike; spaced = word_spaced w a b g f.first; front = w.text ++ h.front; whole = front_whole w a h.front h.whole; quote = quotes_behind w.text h.front b h.quote };
    shorter = shorter;
    merged = merged;
    dropped = dropped;
    kept = kept;
    space_first = λ w a g f. near_gap space (w.text ++ a) refl (space_stays (w.text ++ a) (near_dark w a g f), refl);
    comment_first = λ a. near_gap comment a refl (comment_read a);
  }

  -- The words with comments between.

  parts : Parts ReadFirst AlikeOn r
  parts = record {
    end = record { alike = stops_alike r r stop_r stop_r; quote = λ q. q; spaced = dark_spaced r dark_r };
    end_dark = dark_r;
    behind = λ w a b c i f h. record { alike = behind_alike w.text a b (first_even w c f.0) h.alike; quote = quotes_behind w.text a b h.quote; spaced = on_spaced w b c i f.0 };
    inserted = λ w a b c e f. (
        let g = takes_solid w e in
        let old = codes " " ++ a in
        let new = codes "/**/" ++ (codes " " ++ b) in
        record {
          alike = behind_alike w.text old new (first_even w c f.0) (stops_alike old new refl refl);
          quote = λ q. quotes_on w.text old new (dark_word w c g f.0) q;
          spaced = word_spaced w c new g f.0;
        });
    keeps = on_keeps;
    head = λ w a b c f h. same_begins w.text a b (first_some (w.text ++ c) w f.0) h;
    dark = λ w b d f. dark_none w b f.0 d;
    comment_first = comment_read;
  }

-- the printed text of a value reads as its words
pub value_reads : (v : List Component) (s r : List ℕ) → all_formed v ≡ true → is_stop (classes_of s) ≡ true → is_stop (classes_of r) ≡ true → begins_none white r ≡ true → ReadsTo (spelled (words_all v) ++ s) (words_all v) s → ReadsTo (value_text v ++ r) (value_words v) r
value_reads v s r h k l d reads =
    let near = chain_shortened (InValue s) NearFirst (AlikeIn s) s r (keeps_value s r k l d) (words_all v) (in_value (words_all v) s (formed_closes v h) (chain_of (words_all v) s reads)) in
    reads_of (value_words v) r (chain_parted ReadFirst AlikeOn r (parts s r k l d) (shortened_words (words_all v)) (near_chain (shortened_words (words_all v)) r near) (shortened_short (words_all v))).1
