-- Lists without two gaps in a row, and without a gap at an end.
use Rattle.std.proofs.Common.{◌≡◌, List, [], ◌∷◌, ◌++◌, Bool, true, false, ◌&&◌, not, cond, refl, ap, sym, ◌∙◌, subst, inl, inr}
use Rattle.std.specs.List.{filter}
use Rattle.css_tokens.specs.declared.kind.Kind.{Kind}
use Rattle.css_tokens.specs.Values.{is_white, is_gap, before_run, single_gaps, after_gap, before_gap}
use Rattle.css_tokens.proofs.GapLemmas.{bool_cases, run_solid, run_before_solid, run_gaps, is_gap-kept}

module _ {X : Type 0} (P : X → Type 0) where
  abbrev pub EachOf : List X → Type 0
  EachOf [] = Unit {0}
  EachOf (x ∷ xs) = P x × EachOf xs

module _ {X : Type 0} (kind : X → Kind) where
  -- no two gaps in a row
  abbrev pub HasNoRuns : List X → Type 0
  HasNoRuns [] = Unit {0}
  HasNoRuns (x ∷ []) = Unit {0}
  HasNoRuns (x ∷ y ∷ ys) = ((is_gap (kind x) && is_gap (kind y)) ≡ false) × HasNoRuns (y ∷ ys)

  -- no gap in first place
  abbrev pub StartsSolid : List X → Type 0
  StartsSolid [] = Unit {0}
  StartsSolid (x ∷ xs) = is_gap (kind x) ≡ false

  -- no gap in last place
  abbrev pub EndsSolid : List X → Type 0
  EndsSolid [] = Unit {0}
  EndsSolid (x ∷ []) = is_gap (kind x) ≡ false
  EndsSolid (x ∷ y ∷ ys) = EndsSolid (y ∷ ys)

  pub second_false : (a b : Bool) → (a && b) ≡ false → a ≡ true → b ≡ false
  second_false true b e f = e
  second_false false b e f = cc

  first_false : (a b : Bool) → (a && b) ≡ false → b ≡ true → a ≡ false
  first_false true b e f = cc
  first_false false b e f = refl

  and_false : (a b : Bool) → b ≡ false → (a && b) ≡ false
  and_false true b e = e
  and_false false b e = refl

  no_gap_after : (x y : X) (ys : List X) → is_gap (kind x) ≡ true → HasNoRuns (x ∷ ys) → is_gap (kind y) ≡ true → HasNoRuns (y ∷ ys)
  no_gap_after x y [] e h f = tt
  no_gap_after x y (z ∷ zs) e h f = (and_false (is_gap (kind y)) (is_gap (kind z)) (second_false (is_gap (kind x)) (is_gap (kind z)) h.0 e), h.1)

  before_run_no_runs : (x : X) (ys : List X) → HasNoRuns ys → HasNoRuns (before_run kind x ys)
  before_run_no_runs x [] h = tt
  before_run_no_runs x (y ∷ ys) h = elim (bool_cases (is_gap (kind x))) [
    | inr s ↦ subst HasNoRuns (sym (run_solid kind x (y ∷ ys) s)) (ap (λ b. b && is_gap (kind y)) s, h)
    | inl e ↦ elim (bool_cases (is_gap (kind y))) [
      | inr s ↦ subst HasNoRuns (sym (run_before_solid kind x y ys e s)) (and_false (is_gap (kind x)) (is_gap (kind y)) s, h)
      | inl f ↦ subst HasNoRuns (sym (run_gaps kind x y ys e f)) (no_gap_after y (cond (is_white (kind x)) x y) ys f h (is_gap-kept kind x y e f))
    ]
  ]

  pub single_gaps_no_runs : (xs : List X) → HasNoRuns (single_gaps kind xs)
  single_gaps_no_runs [] = tt
  single_gaps_no_runs (x ∷ xs) = before_run_no_runs x (single_gaps kind xs) (single_gaps_no_runs xs)

  pub single_gaps-same : (xs : List X) → HasNoRuns xs → single_gaps kind xs ≡ xs
  single_gaps-same [] h = refl
  single_gaps-same (x ∷ []) h = refl
  single_gaps-same (x ∷ y ∷ ys) h = ap (before_run kind x) (single_gaps-same (y ∷ ys) h.1) ∙ ap (λ b. cond b ((cond (is_white (kind x)) x y) ∷ ys) (x ∷ y ∷ ys)) h.0

  pub no_runs_tail : (x : X) (xs : List X) → HasNoRuns (x ∷ xs) → HasNoRuns xs
  no_runs_tail x [] h = tt
  no_runs_tail x (y ∷ ys) h = h.1

  pub after_gap_no_runs : (xs : List X) → HasNoRuns xs → HasNoRuns (after_gap kind xs)
  after_gap_no_runs [] h = tt
  after_gap_no_runs (x ∷ xs) h = elim (bool_cases (is_gap (kind x))) [
    | inl e ↦ subst HasNoRuns (sym (ap (λ b. cond b xs (x ∷ xs)) e)) (no_runs_tail x xs h)
    | inr e ↦ subst HasNoRuns (sym (ap (λ b. cond b xs (x ∷ xs)) e)) h
  ]

  tail_starts : (x : X) (xs : List X) → is_gap (kind x) ≡ true → HasNoRuns (x ∷ xs) → StartsSolid xs
  tail_starts x [] e h = tt
  tail_starts x (y ∷ ys) e h = second_false (is_gap (kind x)) (is_gap (kind y)) h.0 e

  pub after_gap_starts : (xs : List X) → HasNoRuns xs → StartsSolid (after_gap kind xs)
  after_gap_starts [] h = tt
  after_gap_starts (x ∷ xs) h = elim (bool_cases (is_gap (kind x))) [
    | inl e ↦ subst StartsSolid (sym (ap (λ b. cond b xs (x ∷ xs)) e)) (tail_starts x xs e h)
    | inr e ↦ subst StartsSolid (sym (ap (λ b. cond b xs (x ∷ xs)) e)) e
  ]

  pub after_gap-same : (xs : List X) → StartsSolid xs → after_gap kind xs ≡ xs
  after_gap-same [] h = refl
  after_gap-same (x ∷ xs) h = ap (λ b. cond b xs (x ∷ xs)) h

  pub before_gap_starts : (xs : List X) → StartsSolid xs → StartsSolid (before_gap kind xs)
  before_gap_starts [] h = tt
  before_gap_starts (x ∷ []) h = subst StartsSolid (sym (ap (λ b. cond b [] (x ∷ [])) h)) h
  before_gap_starts (x ∷ y ∷ ys) h = h

  pub before_gap_no_runs : (xs : List X) → HasNoRuns xs → HasNoRuns (before_gap kind xs)
  before_gap_no_runs [] h = tt
  before_gap_no_runs (x ∷ []) h = elim (bool_cases (is_gap (kind x))) [
    | inl e ↦ subst HasNoRuns (sym (ap (λ b. cond b [] (x ∷ [])) e)) tt
    | inr e ↦ subst HasNoRuns (sym (ap (λ b. cond b [] (x ∷ [])) e)) tt
  ]
  before_gap_no_runs (x ∷ y ∷ []) h = elim (bool_cases (is_gap (kind y))) [
    | inl e ↦ subst (λ ys. HasNoRuns (x ∷ ys)) (sym (ap (λ b. cond b [] (y ∷ [])) e)) tt
    | inr e ↦ subst (λ ys. HasNoRuns (x ∷ ys)) (sym (ap (λ b. cond b [] (y ∷ [])) e)) h
  ]
  before_gap_no_runs (x ∷ y ∷ z ∷ zs) h = (h.0, before_gap_no_runs (y ∷ z ∷ zs) h.1)

  pub before_gap_ends : (xs : List X) → HasNoRuns xs → EndsSolid (before_gap kind xs)
  before_gap_ends [] h = tt
  before_gap_ends (x ∷ []) h = elim (bool_cases (is_gap (kind x))) [
    | inl e ↦ subst EndsSolid (sym (ap (λ b. cond b [] (x ∷ [])) e)) tt
    | inr e ↦ subst EndsSolid (sym (ap (λ b. cond b [] (x ∷ [])) e)) e
  ]
  before_gap_ends (x ∷ y ∷ []) h = elim (bool_cases (is_gap (kind y))) [
    | inl e ↦ subst (λ ys. EndsSolid (x ∷ ys)) (sym (ap (λ b. cond b [] (y ∷ [])) e)) (first_false (is_gap (kind x)) (is_gap (kind y)) h.0 e)
    | inr e ↦ subst (λ ys. EndsSolid (x ∷ ys)) (sym (ap (λ b. cond b [] (y ∷ [])) e)) e
  ]
  before_gap_ends (x ∷ y ∷ z ∷ zs) h = before_gap_ends (y ∷ z ∷ zs) h.1

  pub before_gap-same : (xs : List X) → EndsSolid xs → before_gap kind xs ≡ xs
  before_gap-same [] h = refl
  before_gap-same (x ∷ []) h = ap (λ b. cond b [] (x ∷ [])) h
  before_gap-same (x ∷ y ∷ ys) h = ap (λ zs. x ∷ zs) (before_gap-same (y ∷ ys) h)

  pub last_solid : (xs : List X) (x : X) → EndsSolid (xs ++ x ∷ []) → is_gap (kind x) ≡ false
  last_solid [] x h = h
  last_solid (y ∷ []) x h = h
  last_solid (y ∷ z ∷ zs) x h = last_solid (z ∷ zs) x h

  -- what is left after the gaps are taken out
  abbrev pub solid : X → Bool
  solid x = not (is_gap (kind x))

  pub filter_gap : (x : X) (xs : List X) → is_gap (kind x) ≡ true → filter solid (x ∷ xs) ≡ filter solid xs
  filter_gap x xs e = ap (λ b. cond (not b) (x ∷ filter solid xs) (filter solid xs)) e

  filter-before_run : (x : X) (ys : List X) → filter solid (before_run kind x ys) ≡ filter solid (x ∷ ys)
  filter-before_run x [] = refl
  filter-before_run x (y ∷ ys) = elim (bool_cases (is_gap (kind x))) [
    | inr s ↦ ap (filter solid) (run_solid kind x (y ∷ ys) s)
    | inl e ↦ elim (bool_cases (is_gap (kind y))) [
      | inr s ↦ ap (filter solid) (run_before_solid kind x y ys e s)
      | inl f ↦ ap (filter solid) (run_gaps kind x y ys e f) ∙ filter_gap (cond (is_white (kind x)) x y) ys (is_gap-kept kind x y e f) ∙ sym (filter_gap x (y ∷ ys) e ∙ filter_gap y ys f)
    ]
  ]

  pub filter-single_gaps : (xs : List X) → filter solid (single_gaps kind xs) ≡ filter solid xs
  filter-single_gaps [] = refl
  filter-single_gaps (x ∷ xs) = filter-before_run x (single_gaps kind xs) ∙ ap (λ ys. cond (solid x) (x ∷ ys) ys) (filter-single_gaps xs)

  pub filter-after_gap : (xs : List X) → filter solid (after_gap kind xs) ≡ filter solid xs
  filter-after_gap [] = refl
  filter-after_gap (x ∷ xs) = elim (bool_cases (is_gap (kind x))) [
    | inl e ↦ ap (λ b. filter solid (cond b xs (x ∷ xs))) e ∙ sym (filter_gap x xs e)
    | inr e ↦ ap (λ b. filter solid (cond b xs (x ∷ xs))) e
  ]

  pub filter-before_gap : (xs : List X) → filter solid (before_gap kind xs) ≡ filter solid xs
  filter-before_gap [] = refl
  filter-before_gap (x ∷ []) = elim (bool_cases (is_gap (kind x))) [
    | inl e ↦ ap (λ b. filter solid (cond b [] (x ∷ []))) e ∙ sym (filter_gap x [] e)
    | inr e ↦ ap (λ b. filter solid (cond b [] (x ∷ []))) e
  ]
  filter-before_gap (x ∷ y ∷ ys) = ap (λ zs. cond (solid x) (x ∷ zs) zs) (filter-before_gap (y ∷ ys))

  -- what each element has, each that is left has
  module _ (P : X → Type 0) where
    kept_has : (b : Bool) (x y : X) → P x → P y → P (cond b x y)
    kept_has true x y p q = p
    kept_has false x y p q = q

    run_has : (b w : Bool) (x y : X) (ys : List X) → P x → P y → EachOf P ys → EachOf P (cond b ((cond w x y) ∷ ys) (x ∷ y ∷ ys))
    run_has true w x y ys p q r = (kept_has w x y p q, r)
    run_has false w x y ys p q r = (p, (q, r))

    before_run_has : (x : X) (ys : List X) → P x → EachOf P ys → EachOf P (before_run kind x ys)
    before_run_has x [] p r = (p, tt)
    before_run_has x (y ∷ ys) p r = run_has (is_gap (kind x) && is_gap (kind y)) (is_white (kind x)) x y ys p r.0 r.1

    pub single_gaps_have : (xs : List X) → EachOf P xs → EachOf P (single_gaps kind xs)
    single_gaps_have [] r = tt
    single_gaps_have (x ∷ xs) r = before_run_has x (single_gaps kind xs) r.0 (single_gaps_have xs r.1)

    cut_has : (b : Bool) (x : X) (xs : List X) → P x → EachOf P xs → EachOf P (cond b xs (x ∷ xs))
    cut_has true x xs p r = r
    cut_has false x xs p r = (p, r)

    pub after_gap_has : (xs : List X) → EachOf P xs → EachOf P (after_gap kind xs)
    after_gap_has [] r = tt
    after_gap_has (x ∷ xs) r = cut_has (is_gap (kind x)) x xs r.0 r.1

    pub before_gap_has : (xs : List X) → EachOf P xs → EachOf P (before_gap kind xs)
    before_gap_has [] r = tt
    before_gap_has (x ∷ []) r = cut_has (is_gap (kind x)) x [] r.0 tt
    before_gap_has (x ∷ y ∷ ys) r = (r.0, before_gap_has (y ∷ ys) r.1)
