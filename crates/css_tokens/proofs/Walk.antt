-- Where the words of a value are read one after another, so are the words that it prints, over any reading of the old
-- text and any of the new one that keep what `Keeps` says.
use Rattle.std.proofs.Common.{◌≡◌, ℕ, List, [], ◌∷◌, ◌++◌, map, Bool, true, false, cond, ap, sym, ◌∙◌, subst, append_assoc, inl, inr, ◌⊎◌, codes}
use Rattle.css_tokens.specs.declared.kind.Kind.{Kind}
use Rattle.css_tokens.specs.Piece.{Word, spelled}
use Rattle.css_tokens.specs.Values.{is_white, is_gap, before_run, after_gap, before_gap, word_kind, short_word, shortened_words}
use Rattle.css_tokens.proofs.GapLemmas.{bool_cases, kind_cases, run_before_solid, run_gaps, is_gap-kept, before_gap-solid}
use Rattle.css_tokens.proofs.ValueLemmas.{space, comment, singled, singled-solid}
use Rattle.css_tokens.proofs.SingleGaps.{EachOf, HasNoRuns, single_gaps_no_runs, single_gaps_have, second_false}
use Rattle.css_tokens.proofs.PrintedAgain.{IsShort, all_short, short-short}

-- Each word is the first one of what is left, up to the rest.
abbrev pub Chain : (First : List ℕ → Word → Type 0) → List Word → List ℕ → Type 0
Chain First [] rest = Unit {0}
Chain First (w ∷ ws) rest = First (w.text ++ (spelled ws ++ rest)) w × Chain First ws rest

-- What a reading of the old text, one of the new text and a likeness of texts keep: s is the old rest behind the words, r
-- the new one.
pub record Keeps (Old : List ℕ → Word → Type 0) (First : List ℕ → Word → Type 0) (Alike : List ℕ → List ℕ → Type 0) (s r : List ℕ) : Type 0 where
  pub end : Alike s r
  -- behind a word that is no gap
  pub behind : (w : Word) (a b : List ℕ) → is_gap w.kind ≡ false → Old (w.text ++ a) w → Alike a b → Alike (w.text ++ a) (w.text ++ b)
  -- a gap before what is no gap becomes short
  pub shorter : (w : Word) (a b : List ℕ) → is_gap w.kind ≡ true → Old (w.text ++ a) w → Alike a b → Alike (w.text ++ a) ((short_word w).text ++ b)
  -- a gap before a short gap y: the white one of them is left
  pub merged : (w y : Word) (a b : List ℕ) → is_gap w.kind ≡ true → is_gap y.kind ≡ true → IsShort y → Old (w.text ++ a) w → Alike a (y.text ++ b) → Alike (w.text ++ a) ((cond (is_white w.kind) (short_word w) y).text ++ b)
  -- a gap at the end is left out
  pub dropped : (w : Word) (a : List ℕ) → is_gap w.kind ≡ true → Old (w.text ++ a) w → Alike a r → Alike (w.text ++ a) r
  -- a word stays the first before an alike text
  pub kept : (w : Word) (a b : List ℕ) → is_gap w.kind ≡ false → Old (w.text ++ a) w → Alike a b → First (w.text ++ b) w
  pub space_first : (w : Word) (a : List ℕ) → is_gap w.kind ≡ false → First (w.text ++ a) w → First (codes " " ++ (w.text ++ a)) space
  pub comment_first : (a : List ℕ) → First (codes "/**/" ++ a) comment

true_false : true ≡ false → ⊥
true_false e = cc

pub kept_short : (b : Bool) (x y : Word) → IsShort x → IsShort y → IsShort (cond b x y)
kept_short true x y e f = e
kept_short false x y e f = f

pub short_gap : (g : Word) → is_gap g.kind ≡ true → IsShort g → (g ≡ space) ⊎ (g ≡ comment)
short_gap g e h = elim (kind_cases g.kind) [
  | inl f ↦ inl (sym h ∙ ap (λ (k : Kind). short_word (record { kind = k; text = g.text })) f)
  | inr other ↦ elim other [
    | inl f ↦ inr (sym h ∙ ap (λ (k : Kind). short_word (record { kind = k; text = g.text })) f)
    | inr f ↦ absurd (true_false (sym e ∙ f))
  ]
]

module _ (Old First : List ℕ → Word → Type 0) (Alike : List ℕ → List ℕ → Type 0) (s r : List ℕ) (keeps : Keeps Old First Alike s r) where
  gap_first : (g z : Word) (a : List ℕ) → is_gap g.kind ≡ true → IsShort g → is_gap z.kind ≡ false → First (z.text ++ a) z → First (g.text ++ (z.text ++ a)) g
  gap_first g z a e h f first = elim (short_gap g e h) [
    | inl i ↦ subst (λ (v : Word). First (v.text ++ (z.text ++ a)) v) (sym i) (keeps.space_first z a f first)
    | inr i ↦ subst (λ (v : Word). First (v.text ++ (z.text ++ a)) v) (sym i) (keeps.comment_first (z.text ++ a))
  ]

  -- what the walk keeps: the old text and the new one from here on, and the new words
  abbrev Walks : List ℕ → List Word → Type 0
  Walks old new = Alike old (spelled new ++ r) × Chain First new r

  -- behind a gap, what begins with no gap
  gap_before_solid : (w y : Word) (ys : List Word) (a : List ℕ) → is_gap w.kind ≡ true → is_gap y.kind ≡ false → Old (w.text ++ a) w → Walks a (before_gap word_kind (y ∷ ys)) → Walks (w.text ++ a) (short_word w ∷ before_gap word_kind (y ∷ ys))
  gap_before_solid w y ys a e f first h =
      let g = short_word w in
      let chain : Chain First (y ∷ before_gap word_kind ys) r = subst (λ (vs : List Word). Chain First vs r) (before_gap-solid word_kind y ys f) h.1 in
      let here : First (g.text ++ (spelled (y ∷ before_gap word_kind ys) ++ r)) g = subst (λ (t : List ℕ). First (g.text ++ t) g) (sym (append_assoc y.text (spelled (before_gap word_kind ys)) r)) (gap_first g y (spelled (before_gap word_kind ys) ++ r) e (short-short w) f chain.0) in (
        subst (Alike (w.text ++ a)) (sym (append_assoc g.text (spelled (before_gap word_kind (y ∷ ys))) r)) (keeps.shorter w a (spelled (before_gap word_kind (y ∷ ys)) ++ r) e first h.0),
        (subst (λ (vs : List Word). First (g.text ++ (spelled vs ++ r)) g) (sym (before_gap-solid word_kind y ys f)) here, h.1),
      )

  gap_before_gap : (w y z : Word) (zs : List Word) (a : List ℕ) → is_gap w.kind ≡ true → is_gap y.kind ≡ true → IsShort y → is_gap z.kind ≡ false → Old (w.text ++ a) w → Walks a (y ∷ before_gap word_kind (z ∷ zs)) → Walks (w.text ++ a) ((cond (is_white w.kind) (short_word w) y) ∷ before_gap word_kind (z ∷ zs))
  gap_before_gap w y z zs a e f short n first h =
      let k : Word = cond (is_white w.kind) (short_word w) y in
      let rest = before_gap word_kind (z ∷ zs) in
      let old : Alike a (y.text ++ (spelled rest ++ r)) = subst (Alike a) (append_assoc y.text (spelled rest) r) h.0 in
      let chain : Chain First (z ∷ before_gap word_kind zs) r = subst (λ (vs : List Word). Chain First vs r) (before_gap-solid word_kind z zs n) h.1.1 in
      let k_short : IsShort k = kept_short (is_white w.kind) (short_word w) y (short-short w) short in
      let here : First (k.text ++ (spelled (z ∷ before_gap word_kind zs) ++ r)) k = subst (λ (t : List ℕ). First (k.text ++ t) k) (sym (append_assoc z.text (spelled (before_gap word_kind zs)) r)) (gap_first k z (spelled (before_gap word_kind zs) ++ r) (is_gap-kept word_kind (short_word w) y e f) k_short n chain.0) in (
        subst (Alike (w.text ++ a)) (sym (append_assoc k.text (spelled rest) r)) (keeps.merged w y a (spelled rest ++ r) e f short first old),
        (subst (λ (vs : List Word). First (k.text ++ (spelled vs ++ r)) k) (sym (before_gap-solid word_kind z zs n)) here, h.1.1),
      )

  gap_walks : (w : Word) (xs : List Word) (a : List ℕ) → is_gap w.kind ≡ true → HasNoRuns word_kind xs → EachOf IsShort xs → Old (w.text ++ a) w → Walks a (before_gap word_kind xs) → Walks (w.text ++ a) (before_gap word_kind (before_run word_kind (short_word w) xs))
  gap_walks w [] a e runs short first h = subst (λ (vs : List Word). Walks (w.text ++ a) vs) (sym (ap (λ b. cond b [] (short_word w ∷ [])) e)) (keeps.dropped w a e first h.0, tt)
  gap_walks w (y ∷ ys) a e runs short first h = elim (bool_cases (is_gap y.kind)) [
    | inr f ↦ subst (λ (vs : List Word). Walks (w.text ++ a) (before_gap word_kind vs)) (sym (run_before_solid word_kind (short_word w) y ys e f)) (gap_before_solid w y ys a e f first h)
    | inl f ↦ subst (λ (vs : List Word). Walks (w.text ++ a) (before_gap word_kind vs)) (sym (run_gaps word_kind (short_word w) y ys e f)) (after_gaps w y ys a e f runs short first h)
  ]
    where
      after_gaps : (w y : Word) (ys : List Word) (a : List ℕ) → is_gap w.kind ≡ true → is_gap y.kind ≡ true → HasNoRuns word_kind (y ∷ ys) → EachOf IsShort (y ∷ ys) → Old (w.text ++ a) w → Walks a (before_gap word_kind (y ∷ ys)) → Walks (w.text ++ a) (before_gap word_kind ((cond (is_white w.kind) (short_word w) y) ∷ ys))
      after_gaps w y [] a e f runs short first h =
          let old : Walks a [] = subst (Walks a) (ap (λ b. cond b [] (y ∷ [])) f) h in
          subst (Walks (w.text ++ a)) (sym (ap (λ b. cond b [] ((cond (is_white w.kind) (short_word w) y) ∷ [])) (is_gap-kept word_kind (short_word w) y e f))) (keeps.dropped w a e first old.0, tt)
      after_gaps w y (z ∷ zs) a e f runs short first h = gap_before_gap w y z zs a e f short.0 (second_false word_kind (is_gap y.kind) (is_gap z.kind) runs.0 f) first h

  solid_walks : (w : Word) (xs : List Word) (a : List ℕ) → is_gap w.kind ≡ false → Old (w.text ++ a) w → Walks a (before_gap word_kind xs) → Walks (w.text ++ a) (w ∷ before_gap word_kind xs)
  solid_walks w xs a e first h = (
    subst (Alike (w.text ++ a)) (sym (append_assoc w.text (spelled (before_gap word_kind xs)) r)) (keeps.behind w a (spelled (before_gap word_kind xs) ++ r) e first h.0),
    (keeps.kept w a (spelled (before_gap word_kind xs) ++ r) e first h.0, h.1),
  )

  walk : (ws : List Word) → Chain Old ws s → Walks (spelled ws ++ s) (before_gap word_kind (singled ws))
  walk [] h = (keeps.end, tt)
  walk (w ∷ ws) h =
      let later = walk ws h.1 in
      subst (λ (t : List ℕ). Walks t (before_gap word_kind (singled (w ∷ ws)))) (sym (append_assoc w.text (spelled ws) s))
      (elim (bool_cases (is_gap w.kind)) [
        | inl e ↦ gap_walks w (singled ws) (spelled ws ++ s) e (single_gaps_no_runs word_kind (map short_word ws)) (single_gaps_have word_kind IsShort (map short_word ws) (all_short ws)) h.0 later
        | inr e ↦ subst (λ (vs : List Word). Walks (w.text ++ (spelled ws ++ s)) vs) (sym (ap (before_gap word_kind) (singled-solid w ws e) ∙ before_gap-solid word_kind w (singled ws) e)) (solid_walks w (singled ws) (spelled ws ++ s) e h.0 later)
      ])

  tail_chain : (x : Word) (xs : List Word) → Chain First (before_gap word_kind (x ∷ xs)) r → Chain First (before_gap word_kind xs) r
  tail_chain x [] h = tt
  tail_chain x (y ∷ ys) h = h.1

  after_gap_chain : (xs : List Word) → Chain First (before_gap word_kind xs) r → Chain First (before_gap word_kind (after_gap word_kind xs)) r
  after_gap_chain [] h = tt
  after_gap_chain (x ∷ xs) h = elim (bool_cases (is_gap x.kind)) [
    | inl e ↦ subst (λ (vs : List Word). Chain First (before_gap word_kind vs) r) (sym (ap (λ b. cond b xs (x ∷ xs)) e)) (tail_chain x xs h)
    | inr e ↦ subst (λ (vs : List Word). Chain First (before_gap word_kind vs) r) (sym (ap (λ b. cond b xs (x ∷ xs)) e)) h
  ]

  -- the shortened words are read one after another
  pub chain_shortened : (ws : List Word) → Chain Old ws s → Chain First (shortened_words ws) r
  chain_shortened ws h = after_gap_chain (singled ws) (walk ws h).1
