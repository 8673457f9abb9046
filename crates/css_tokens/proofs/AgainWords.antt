-- The words of the printed components are the printed words.
use Rattle.std.proofs.Common.{◌≡◌, ℕ, List, [], ◌∷◌, ◌++◌, Bool, true, false, cond, refl, ap, sym, ◌∙◌, subst, append_assoc, inl, inr}
use Rattle.std.proofs.lemmas.Bool.{false≢true}
use Rattle.std.proofs.lemmas.List.{append-nil}
use Rattle.css_tokens.specs.declared.component.Component.{Component}
use Rattle.css_tokens.specs.declared.component.Component as component
use Rattle.css_tokens.specs.declared.component.Block.{Block}
use Rattle.css_tokens.specs.Piece.{Piece, Word, word_of}
use Rattle.css_tokens.specs.Trees.{opens, closing, words_all, is_formed, is_formed-Block, all_formed}
use Rattle.css_tokens.specs.Values.{is_white, is_gap, before_run, after_gap, before_gap, word_kind, short_word, shortened_words}
use Rattle.css_tokens.specs.ValueAgain.{head_kind, short_piece, shortened, all_shortened, value_shortened, head_kind-Single, head_kind-Block, shortened-Single, shortened-Block}
use Rattle.css_tokens.proofs.TreeInduction.{Each, by_trees}
use Rattle.css_tokens.proofs.Rebuilt.{both}
use Rattle.css_tokens.proofs.GapLemmas.{bool_cases, run_solid, run_before_solid, run_gaps, after_gap-solid}
use Rattle.css_tokens.proofs.ValueLemmas.{singled, singled-solid, short_word-solid}
use Rattle.css_tokens.proofs.WritingLemmas.{words_all-cons, words_of-Block}
use Rattle.css_tokens.proofs.AgainLemmas.{words_of, words_of-Single, shape, opens_solid, head_kind-shortened, all_shortened_formed, after_gap_passes}

-- the words do not begin with a gap
abbrev pub IsSolidFirst : List Word → Type 0
IsSolidFirst [] = Unit {0}
IsSolidFirst (w ∷ ws) = is_gap w.kind ≡ false

clash : (b : Bool) → b ≡ true → b ≡ false → ⊥
clash b e f = false≢true (sym f ∙ e)

block_solid : (b : Block) → is_formed (component.Block b) ≡ true → is_gap (head_kind (component.Block b)) ≡ false
block_solid b e = ap is_gap (head_kind-Block b) ∙ opens_solid b.opening.kind (both (opens b.opening.kind) (all_formed b.items) (sym (is_formed-Block b) ∙ e)).0

-- a component that is a gap is a single token
gap_single : (c : Component) → is_formed c ≡ true → is_gap (head_kind c) ≡ true → (p : Piece) × (c ≡ component.Single p)
gap_single c e g = elim (shape c) [
  | inl s ↦ s
  | inr s ↦ absurd (clash (is_gap (head_kind c)) g (ap (λ d. is_gap (head_kind d)) s.1 ∙ block_solid s.0 (ap is_formed (sym s.1) ∙ e)))
]

-- the first word of a component has its kind
pub first_word : (c : Component) → (w : Word) × (ws : List Word) × (words_of c ≡ w ∷ ws) × (w.kind ≡ head_kind c)
first_word c = elim (shape c) [
  | inl s ↦ (word_of s.0, [], ap words_of s.1 ∙ words_of-Single s.0, sym (ap head_kind s.1 ∙ head_kind-Single s.0))
  | inr s ↦ (word_of s.0.opening, words_all s.0.items ++ word_of (closing s.0.opening s.0.close) ∷ [], ap words_of s.1 ∙ words_of-Block s.0, sym (ap head_kind s.1 ∙ head_kind-Block s.0))
]

-- the last word of a component that is no gap is none
last_word : (c : Component) → is_gap (head_kind c) ≡ false → (ws : List Word) × (w : Word) × (words_of c ≡ ws ++ w ∷ []) × (is_gap w.kind ≡ false)
last_word c e = elim (shape c) [
  | inl s ↦ ([], word_of s.0, ap words_of s.1 ∙ words_of-Single s.0, ap is_gap (sym (ap head_kind s.1 ∙ head_kind-Single s.0)) ∙ e)
  | inr s ↦ (word_of s.0.opening ∷ words_all s.0.items, word_of (closing s.0.opening s.0.close), ap words_of s.1 ∙ words_of-Block s.0, refl)
]

before_solid : (g : Word) (c : Component) (cs : List Component) (rest : List Word) → is_gap g.kind ≡ true → is_gap (head_kind c) ≡ false → before_run word_kind g (words_all (c ∷ cs) ++ rest) ≡ g ∷ (words_all (c ∷ cs) ++ rest)
before_solid g c cs rest e f =
    let first = first_word c in
    let form : words_all (c ∷ cs) ++ rest ≡ first.0 ∷ (first.1 ++ words_all cs) ++ rest = ap (λ ws. ws ++ rest) (words_all-cons c cs ∙ ap (λ ws. ws ++ words_all cs) first.2) in
    ap (before_run word_kind g) form ∙ run_before_solid word_kind g first.0 ((first.1 ++ words_all cs) ++ rest) e (ap is_gap first.3 ∙ f) ∙ ap (λ ws. g ∷ ws) (sym form)

words_single : (p : Piece) (cs : List Component) → words_all (component.Single p ∷ cs) ≡ word_of p ∷ words_all cs
words_single p cs = words_all-cons (component.Single p) cs ∙ ap (λ ws. ws ++ words_all cs) (words_of-Single p)

kept_words : (b : Bool) (p q : Piece) (cs : List Component) → words_all ((cond b (component.Single p) (component.Single q)) ∷ cs) ≡ (cond b (word_of p) (word_of q)) ∷ words_all cs
kept_words true p q cs = words_single p cs
kept_words false p q cs = words_single q cs

alone : (g : Word) (rest : List Word) → is_gap g.kind ≡ true → IsSolidFirst rest → before_run word_kind g rest ≡ g ∷ rest
alone g [] e f = refl
alone g (w ∷ ws) e f = run_before_solid word_kind g w ws e f

gap_words : (p : Piece) (cs : List Component) (rest : List Word) → all_formed cs ≡ true → is_gap p.kind ≡ true → IsSolidFirst rest → before_run word_kind (word_of p) (words_all cs ++ rest) ≡ words_all (before_run head_kind (component.Single p) cs) ++ rest
gap_words p [] rest formed e f = alone (word_of p) rest e f ∙ ap (λ ws. ws ++ rest) (sym (words_single p []))
gap_words p (c ∷ cs) rest formed e f =
    let h = both (is_formed c) (all_formed cs) formed in
    let head : is_gap (head_kind (component.Single p)) ≡ true = ap is_gap (head_kind-Single p) ∙ e in
    elim (bool_cases (is_gap (head_kind c))) [
      | inl g ↦ (let s = gap_single c h.0 g in
          let q : Piece = s.0 in
          let both_words : words_all (c ∷ cs) ++ rest ≡ word_of q ∷ (words_all cs ++ rest) = ap (λ ws. ws ++ rest) (ap (λ d. words_all (d ∷ cs)) s.1 ∙ words_single q cs) in
          let gap : is_gap q.kind ≡ true = ap is_gap (sym (ap head_kind s.1 ∙ head_kind-Single q)) ∙ g in
          ap (before_run word_kind (word_of p)) both_words ∙ run_gaps word_kind (word_of p) (word_of q) (words_all cs ++ rest) e gap
          ∙ sym (ap (λ ds. words_all ds ++ rest) (run_gaps head_kind (component.Single p) c cs head g)
          ∙ ap (λ d. words_all ((cond (is_white (head_kind (component.Single p))) (component.Single p) d) ∷ cs) ++ rest) s.1
          ∙ ap (λ k. words_all ((cond (is_white k) (component.Single p) (component.Single q)) ∷ cs) ++ rest) (head_kind-Single p)
          ∙ ap (λ ws. ws ++ rest) (kept_words (is_white p.kind) p q cs)))
      | inr n ↦ before_solid (word_of p) c cs rest e n
          ∙ sym (ap (λ ds. words_all ds ++ rest) (run_before_solid head_kind (component.Single p) c cs head n) ∙ ap (λ ws. ws ++ rest) (words_single p (c ∷ cs)))
    ]

-- A component that is no gap, whatever follows, prints as its own words.
abbrev PrintsApart : Component → Type 0
PrintsApart c = is_formed c ≡ true → is_gap (head_kind c) ≡ false → (rest : List Word) → singled (words_of c ++ rest) ≡ words_of (shortened c) ++ singled rest

all_words : (cs : List Component) → Each PrintsApart cs → all_formed cs ≡ true → (rest : List Word) → IsSolidFirst (singled rest) → singled (words_all cs ++ rest) ≡ words_all (all_shortened cs) ++ singled rest
all_words [] each formed rest f = refl
all_words (c ∷ cs) each formed rest f =
    let h = both (is_formed c) (all_formed cs) formed in
    let inside = all_words cs each.1 h.1 rest f in
    elim (bool_cases (is_gap (head_kind c))) [
      | inl g ↦ (let s = gap_single c h.0 g in
          let q : Piece = s.0 in
          let gap : is_gap q.kind ≡ true = ap is_gap (sym (ap head_kind s.1 ∙ head_kind-Single q)) ∙ g in
          ap (λ ws. singled (ws ++ rest)) (ap (λ d. words_all (d ∷ cs)) s.1 ∙ words_single q cs)
          ∙ ap (before_run word_kind (short_word (word_of q))) inside
          ∙ gap_words (short_piece q) (all_shortened cs) (singled rest) (all_shortened_formed cs h.1) gap f
          ∙ ap (λ d. words_all (before_run head_kind d (all_shortened cs)) ++ singled rest) (sym (ap shortened s.1 ∙ shortened-Single q)))
      | inr n ↦
          ap (λ ws. singled (ws ++ rest)) (words_all-cons c cs) ∙ ap singled (append_assoc (words_of c) (words_all cs) rest)
          ∙ each.0 h.0 n (words_all cs ++ rest)
          ∙ ap (λ ws. words_of (shortened c) ++ ws) inside
          ∙ sym (append_assoc (words_of (shortened c)) (words_all (all_shortened cs)) (singled rest))
          ∙ ap (λ ws. ws ++ singled rest) (sym (words_all-cons (shortened c) (all_shortened cs)))
          ∙ ap (λ ds. words_all ds ++ singled rest) (sym (run_solid head_kind (shortened c) (all_shortened cs) (ap is_gap (head_kind-shortened c) ∙ n)))
    ]

single_apart : (p : Piece) → PrintsApart (component.Single p)
single_apart p e f rest =
    let solid : is_gap p.kind ≡ false = ap is_gap (sym (head_kind-Single p)) ∙ f in
    ap (λ ws. singled (ws ++ rest)) (words_of-Single p) ∙ singled-solid (word_of p) rest solid
    ∙ ap (λ w. w ∷ singled rest) (sym (short_word-solid (word_of p) solid))
    ∙ ap (λ ws. ws ++ singled rest) (sym (ap words_of (shortened-Single p) ∙ words_of-Single (short_piece p)))

block_apart : (opening : Piece) (items : List Component) (close : ℕ) → Each PrintsApart items → PrintsApart (component.Block (record { opening = opening; items = items; close = close }))
block_apart opening items close each e f rest =
    let b : Block = record { opening = opening; items = items; close = close } in
    let h = both (opens opening.kind) (all_formed items) (sym (is_formed-Block b) ∙ e) in
    let last : Word = word_of (closing opening close) in
    ap (λ ws. singled (ws ++ rest)) (words_of-Block b)
    ∙ singled-solid (word_of opening) ((words_all items ++ last ∷ []) ++ rest) (opens_solid opening.kind h.0)
    ∙ ap (λ ws. word_of opening ∷ singled ws) (append_assoc (words_all items) (last ∷ []) rest)
    ∙ ap (λ ws. word_of opening ∷ ws) (all_words items each h.1 (last ∷ rest) (subst IsSolidFirst (sym (singled-solid last rest refl)) refl))
    ∙ ap (λ ws. word_of opening ∷ words_all (all_shortened items) ++ ws) (singled-solid last rest refl)
    ∙ ap (λ ws. word_of opening ∷ ws) (sym (append_assoc (words_all (all_shortened items)) (last ∷ []) (singled rest)))
    ∙ ap (λ ws. ws ++ singled rest) (sym (ap words_of (shortened-Block b) ∙ words_of-Block (record { opening = opening; items = all_shortened items; close = close })))

apart : (c : Component) → PrintsApart c
apart = by_trees PrintsApart single_apart block_apart

each_apart : (cs : List Component) → Each PrintsApart cs
each_apart [] = tt
each_apart (c ∷ cs) = (apart c, each_apart cs)

pub words_shortened : (cs : List Component) → all_formed cs ≡ true → words_all (all_shortened cs) ≡ singled (words_all cs)
words_shortened cs e = sym (ap singled (sym (append-nil (words_all cs))) ∙ all_words cs (each_apart cs) e [] tt ∙ append-nil (words_all (all_shortened cs)))

-- cutting a gap at the start
words_after_gap : (cs : List Component) → all_formed cs ≡ true → words_all (after_gap head_kind cs) ≡ after_gap word_kind (words_all cs)
words_after_gap [] e = refl
words_after_gap (c ∷ cs) e = elim (bool_cases (is_gap (head_kind c))) [
  | inl g ↦ (let s = gap_single c (both (is_formed c) (all_formed cs) e).0 g in
      let gap : is_gap s.0.kind ≡ true = ap is_gap (sym (ap head_kind s.1 ∙ head_kind-Single s.0)) ∙ g in
      ap (λ b. words_all (cond b cs (c ∷ cs))) g
      ∙ sym (ap (λ d. after_gap word_kind (words_all (d ∷ cs))) s.1 ∙ ap (after_gap word_kind) (words_single s.0 cs) ∙ ap (λ b. cond b (words_all cs) (word_of s.0 ∷ words_all cs)) gap))
  | inr n ↦ (let first = first_word c in
      let form : words_all (c ∷ cs) ≡ first.0 ∷ first.1 ++ words_all cs = words_all-cons c cs ∙ ap (λ ws. ws ++ words_all cs) first.2 in
      ap words_all (after_gap-solid head_kind c cs n)
      ∙ sym (ap (after_gap word_kind) form ∙ after_gap-solid word_kind first.0 (first.1 ++ words_all cs) (ap is_gap first.3 ∙ n) ∙ sym form))
]

before_gap-push : (ws : List Word) (w : Word) → is_gap w.kind ≡ false → before_gap word_kind (ws ++ w ∷ []) ≡ ws ++ w ∷ []
before_gap-push [] w e = ap (λ b. cond b [] (w ∷ [])) e
before_gap-push (v ∷ []) w e = ap (λ ws. v ∷ ws) (before_gap-push [] w e)
before_gap-push (v ∷ u ∷ us) w e = ap (λ ws. v ∷ ws) (before_gap-push (u ∷ us) w e)

before_gap-append : (ws : List Word) (v : Word) (vs : List Word) → before_gap word_kind (ws ++ v ∷ vs) ≡ ws ++ before_gap word_kind (v ∷ vs)
before_gap-append [] v vs = refl
before_gap-append (w ∷ []) v vs = refl
before_gap-append (w ∷ u ∷ us) v vs = ap (λ ws. w ∷ ws) (before_gap-append (u ∷ us) v vs)

-- cutting a gap at the end
words_before_gap : (cs : List Component) → all_formed cs ≡ true → words_all (before_gap head_kind cs) ≡ before_gap word_kind (words_all cs)
words_before_gap [] e = refl
words_before_gap (c ∷ []) e = elim (bool_cases (is_gap (head_kind c))) [
  | inl g ↦ (let s = gap_single c (both (is_formed c) true e).0 g in
      let gap : is_gap s.0.kind ≡ true = ap is_gap (sym (ap head_kind s.1 ∙ head_kind-Single s.0)) ∙ g in
      ap (λ b. words_all (cond b [] (c ∷ []))) g
      ∙ sym (ap (λ d. before_gap word_kind (words_all (d ∷ []))) s.1 ∙ ap (before_gap word_kind) (words_single s.0 []) ∙ ap (λ b. cond b [] (word_of s.0 ∷ [])) gap))
  | inr n ↦ (let last = last_word c n in
      let form : words_all (c ∷ []) ≡ last.0 ++ last.1 ∷ [] = words_all-cons c [] ∙ append-nil (words_of c) ∙ last.2 in
      ap (λ b. words_all (cond b [] (c ∷ []))) n
      ∙ sym (ap (before_gap word_kind) form ∙ before_gap-push last.0 last.1 last.3 ∙ sym form))
]
words_before_gap (c ∷ d ∷ ds) e =
    let first = first_word d in
    let form : words_all (d ∷ ds) ≡ first.0 ∷ first.1 ++ words_all ds = words_all-cons d ds ∙ ap (λ ws. ws ++ words_all ds) first.2 in
    words_all-cons c (before_gap head_kind (d ∷ ds))
    ∙ ap (λ ws. words_of c ++ ws) (words_before_gap (d ∷ ds) (both (is_formed c) (all_formed (d ∷ ds)) e).1)
    ∙ ap (λ ws. words_of c ++ before_gap word_kind ws) form
    ∙ sym (ap (before_gap word_kind) (words_all-cons c (d ∷ ds) ∙ ap (λ ws. words_of c ++ ws) form) ∙ before_gap-append (words_of c) first.0 (first.1 ++ words_all ds))

-- the words of the printed components are the printed words
pub words_value_shortened : (v : List Component) → all_formed v ≡ true → words_all (value_shortened v) ≡ shortened_words (words_all v)
words_value_shortened v e =
    let formed = all_shortened_formed v e in
    words_before_gap (after_gap head_kind (all_shortened v)) (after_gap_passes head_kind is_formed (all_shortened v) formed)
    ∙ ap (before_gap word_kind) (words_after_gap (all_shortened v) formed)
    ∙ ap (λ ws. before_gap word_kind (after_gap word_kind ws)) (words_shortened v e)
