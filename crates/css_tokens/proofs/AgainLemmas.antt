-- The components of the printed text have the printed words.
use Rattle.std.proofs.Common.{◌≡◌, ℕ, List, [], ◌∷◌, map, Bool, true, false, ◌&&◌, cond, refl, ap, sym, ◌∙◌, subst, inl, inr, ◌⊎◌}
use Rattle.std.specs.List.{list_all}
use Rattle.css_tokens.specs.declared.kind.Kind.{Kind}
use Rattle.css_tokens.specs.declared.kind.Kind.TheVariants.{White, Comment}
use Rattle.css_tokens.specs.declared.component.Component.{Component}
use Rattle.css_tokens.specs.declared.component.Component as component
use Rattle.css_tokens.specs.declared.component.Block.{Block}
use Rattle.css_tokens.specs.Piece.{Piece, Word, word_of}
use Rattle.css_tokens.specs.Trees.{opens, pieces_of, pieces_of-Single, is_formed, is_formed-Single, is_formed-Block, all_formed}
use Rattle.css_tokens.specs.Values.{is_white, is_gap, before_run, single_gaps, after_gap, before_gap}
use Rattle.css_tokens.specs.ValueAgain.{head_kind, short_piece, shortened, all_shortened, value_shortened, head_kind-Single, head_kind-Block, shortened-Single, shortened-Block}
use Rattle.css_tokens.proofs.TreeInduction.{Each, by_trees}
use Rattle.css_tokens.proofs.Rebuilt.{both}

abbrev pub words_of : Component → List Word
words_of c = map word_of (pieces_of c)

pub words_of-Single : (p : Piece) → words_of (component.Single p) ≡ word_of p ∷ []
words_of-Single p = ap (map word_of) (pieces_of-Single p)

abbrev IsShape : Component → Type 0
IsShape c = ((p : Piece) × (c ≡ component.Single p)) ⊎ ((b : Block) × (c ≡ component.Block b))

-- a single token or a block
pub shape : (c : Component) → IsShape c
shape = by_trees IsShape (λ p. inl (p, refl)) (λ opening items close each. inr (record { opening = opening; items = items; close = close }, refl))

pub opens_solid : (k : Kind) → opens k ≡ true → is_gap k ≡ false
opens_solid White e = cc
opens_solid Comment e = cc
opens_solid _ e = refl

pub head_kind-shortened : (c : Component) → head_kind (shortened c) ≡ head_kind c
head_kind-shortened c = elim (shape c) [
  | inl s ↦ subst (λ (d : Component). head_kind (shortened d) ≡ head_kind d) (sym s.1) (ap head_kind (shortened-Single s.0) ∙ head_kind-Single (short_piece s.0) ∙ sym (head_kind-Single s.0))
  | inr s ↦ subst (λ (d : Component). head_kind (shortened d) ≡ head_kind d) (sym s.1) (ap head_kind (shortened-Block s.0) ∙ head_kind-Block (record { opening = s.0.opening; items = all_shortened s.0.items; close = s.0.close }) ∙ sym (head_kind-Block s.0))
]

pub joined : (a b : Bool) → a ≡ true → b ≡ true → (a && b) ≡ true
joined true true e f = refl
joined true false e f = cc
joined false _ e f = cc

-- a test that each component passes
module _ {X : Type 0} (kind : X → Kind) (p : X → Bool) where
  run_passes : (b w : Bool) (x y : X) (ys : List X) → p x ≡ true → (p y && list_all p ys) ≡ true → list_all p (cond b ((cond w x y) ∷ ys) (x ∷ y ∷ ys)) ≡ true
  run_passes true true x y ys e f = joined (p x) (list_all p ys) e (both (p y) (list_all p ys) f).1
  run_passes true false x y ys e f = f
  run_passes false _ x y ys e f = joined (p x) (p y && list_all p ys) e f

  before_run_passes : (x : X) (ys : List X) → p x ≡ true → list_all p ys ≡ true → list_all p (before_run kind x ys) ≡ true
  before_run_passes x [] e f = joined (p x) true e refl
  before_run_passes x (y ∷ ys) e f = run_passes (is_gap (kind x) && is_gap (kind y)) (is_white (kind x)) x y ys e f

  pub single_gaps_pass : (xs : List X) → list_all p xs ≡ true → list_all p (single_gaps kind xs) ≡ true
  single_gaps_pass [] e = refl
  single_gaps_pass (x ∷ xs) e = let h = both (p x) (list_all p xs) e in before_run_passes x (single_gaps kind xs) h.0 (single_gaps_pass xs h.1)

  cut_passes : (b : Bool) (x : X) (xs : List X) → (p x && list_all p xs) ≡ true → list_all p (cond b xs (x ∷ xs)) ≡ true
  cut_passes true x xs e = (both (p x) (list_all p xs) e).1
  cut_passes false x xs e = e

  pub after_gap_passes : (xs : List X) → list_all p xs ≡ true → list_all p (after_gap kind xs) ≡ true
  after_gap_passes [] e = refl
  after_gap_passes (x ∷ xs) e = cut_passes (is_gap (kind x)) x xs e

  pub before_gap_passes : (xs : List X) → list_all p xs ≡ true → list_all p (before_gap kind xs) ≡ true
  before_gap_passes [] e = refl
  before_gap_passes (x ∷ []) e = cut_passes (is_gap (kind x)) x [] e
  before_gap_passes (x ∷ y ∷ ys) e = let h = both (p x) (list_all p (y ∷ ys)) e in joined (p x) (list_all p (before_gap kind (y ∷ ys))) h.0 (before_gap_passes (y ∷ ys) h.1)

abbrev StaysFormed : Component → Type 0
StaysFormed c = is_formed c ≡ true → is_formed (shortened c) ≡ true

map_shortened_formed : (cs : List Component) → Each StaysFormed cs → all_formed cs ≡ true → all_formed (map shortened cs) ≡ true
map_shortened_formed [] each e = refl
map_shortened_formed (c ∷ cs) each e = let h = both (is_formed c) (all_formed cs) e in joined (is_formed (shortened c)) (all_formed (map shortened cs)) (each.0 h.0) (map_shortened_formed cs each.1 h.1)

block_stays : (opening : Piece) (items : List Component) (close : ℕ) → Each StaysFormed items → StaysFormed (component.Block (record { opening = opening; items = items; close = close }))
block_stays opening items close each e =
    let h = both (opens opening.kind) (all_formed items) (sym (is_formed-Block (record { opening = opening; items = items; close = close })) ∙ e) in
    ap is_formed (shortened-Block (record { opening = opening; items = items; close = close })) ∙ is_formed-Block (record { opening = opening; items = all_shortened items; close = close })
    ∙ joined (opens opening.kind) (all_formed (all_shortened items)) h.0 (single_gaps_pass head_kind is_formed (map shortened items) (map_shortened_formed items each h.1))

stays_formed : (c : Component) → StaysFormed c
stays_formed = by_trees StaysFormed (λ p e. ap is_formed (shortened-Single p) ∙ is_formed-Single (short_piece p) ∙ sym (is_formed-Single p) ∙ e) block_stays

each_stays : (cs : List Component) → Each StaysFormed cs
each_stays [] = tt
each_stays (c ∷ cs) = (stays_formed c, each_stays cs)

pub all_shortened_formed : (cs : List Component) → all_formed cs ≡ true → all_formed (all_shortened cs) ≡ true
all_shortened_formed cs e = single_gaps_pass head_kind is_formed (map shortened cs) (map_shortened_formed cs (each_stays cs) e)

-- what is printed is well formed too
pub value_shortened_formed : (v : List Component) → all_formed v ≡ true → all_formed (value_shortened v) ≡ true
value_shortened_formed v e = before_gap_passes head_kind is_formed (after_gap head_kind (all_shortened v)) (after_gap_passes head_kind is_formed (all_shortened v) (all_shortened_formed v e))
