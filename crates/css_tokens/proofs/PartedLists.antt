-- Lists in which comments part what takes a space from white space.
use Rattle.std.proofs.Common.{◌≡◌, List, [], ◌∷◌, Bool, true, false, ◌&&◌, cond, refl, ap, sym, ◌∙◌, subst, inl, inr}
use Rattle.std.specs.List.{filter}
use Rattle.css_tokens.specs.declared.kind.Kind.{Kind}
use Rattle.css_tokens.specs.declared.kind.Kind.TheVariants.{White}
use Rattle.css_tokens.specs.Values.{is_white, is_gap, before_run, single_gaps, behind_taking, parted}
use Rattle.css_tokens.proofs.GapLemmas.{bool_cases, kind_cases, run_solid, run_gaps}
use Rattle.css_tokens.proofs.SingleGaps.{EachOf, HasNoRuns, StartsSolid, EndsSolid, filter_gap, no_runs_tail, solid}

pub white_gap : (k : Kind) → is_white k ≡ true → is_gap k ≡ true
white_gap k e = elim (kind_cases k) [
  | inl i ↦ ap is_gap i
  | inr other ↦ elim other [
    | inl i ↦ ap is_gap i
    | inr i ↦ white_only k e i
  ]
]
  where
    white_only : (k : Kind) → is_white k ≡ true → is_gap k ≡ false → is_gap k ≡ true
    white_only White e i = refl
    white_only _ e i = cc

module _ {X : Type 0} (kind : X → Kind) (comment : X) (takes : X → Bool) where
  -- the choice at white space
  with_white : (y : X) (ys : List X) → is_white (kind y) ≡ true → behind_taking kind comment true (y ∷ ys) ≡ comment ∷ y ∷ ys
  with_white y ys e = ap (λ b. cond b (comment ∷ y ∷ ys) (y ∷ ys)) e

  pub without_white : (b : Bool) (y : X) (ys : List X) → is_white (kind y) ≡ false → behind_taking kind comment b (y ∷ ys) ≡ y ∷ ys
  without_white true y ys e = ap (λ b. cond b (comment ∷ y ∷ ys) (y ∷ ys)) e
  without_white false y ys e = refl

  module _ (P : X → Type 0) (p : P comment) where
    behind_has : (b : Bool) (ys : List X) → EachOf P ys → EachOf P (behind_taking kind comment b ys)
    behind_has false ys h = h
    behind_has true [] h = h
    behind_has true (y ∷ ys) h = elim (bool_cases (is_white (kind y))) [
      | inl e ↦ subst (EachOf P) (sym (with_white y ys e)) (p, h)
      | inr e ↦ subst (EachOf P) (sym (without_white true y ys e)) h
    ]

    pub parted_has : (xs : List X) → EachOf P xs → EachOf P (parted kind comment takes xs)
    parted_has [] h = h
    parted_has (x ∷ xs) h = (h.0, behind_has (takes x) (parted kind comment takes xs) (parted_has xs h.1))

  pub parted_starts : (xs : List X) → StartsSolid kind xs → StartsSolid kind (parted kind comment takes xs)
  parted_starts [] h = h
  parted_starts (x ∷ xs) h = h

  behind_ends : (x : X) (b : Bool) (ys : List X) → (ys ≡ [] → EndsSolid kind (x ∷ [])) → EndsSolid kind ys → EndsSolid kind (x ∷ behind_taking kind comment b ys)
  behind_ends x false [] f h = f refl
  behind_ends x false (y ∷ ys) f h = h
  behind_ends x true [] f h = f refl
  behind_ends x true (y ∷ ys) f h = elim (bool_cases (is_white (kind y))) [
    | inl e ↦ subst (λ zs. EndsSolid kind (x ∷ zs)) (sym (with_white y ys e)) h
    | inr e ↦ subst (λ zs. EndsSolid kind (x ∷ zs)) (sym (without_white true y ys e)) h
  ]

  pub parted_ends : (xs : List X) → EndsSolid kind xs → EndsSolid kind (parted kind comment takes xs)
  parted_ends [] h = h
  parted_ends (x ∷ []) h = behind_ends x (takes x) [] (λ e. h) tt
  parted_ends (x ∷ y ∷ ys) h = behind_ends x (takes x) (parted kind comment takes (y ∷ ys)) (λ e. cc) (parted_ends (y ∷ ys) h)

  module _ (gap : is_gap (kind comment) ≡ true) where
    filter-behind : (b : Bool) (ys : List X) → filter (solid kind) (behind_taking kind comment b ys) ≡ filter (solid kind) ys
    filter-behind false ys = refl
    filter-behind true [] = refl
    filter-behind true (y ∷ ys) = elim (bool_cases (is_white (kind y))) [
      | inl e ↦ ap (filter (solid kind)) (with_white y ys e) ∙ filter_gap kind comment (y ∷ ys) gap
      | inr e ↦ ap (filter (solid kind)) (without_white true y ys e)
    ]

    pub filter-parted : (xs : List X) → filter (solid kind) (parted kind comment takes xs) ≡ filter (solid kind) xs
    filter-parted [] = refl
    filter-parted (x ∷ xs) = ap (λ ys. cond (solid kind x) (x ∷ ys) ys) (filter-behind (takes x) (parted kind comment takes xs) ∙ filter-parted xs)

    -- the comment goes again where runs of gaps are made single
    module _ (dark : is_white (kind comment) ≡ false) where
      no_run : (x : X) (xs : List X) → HasNoRuns kind (x ∷ xs) → before_run kind x xs ≡ x ∷ xs
      no_run x [] h = refl
      no_run x (y ∷ ys) h = ap (λ b. cond b ((cond (is_white (kind x)) x y) ∷ ys) (x ∷ y ∷ ys)) h.0

      white_head : (y : X) (zs : List X) → is_white (kind y) ≡ true → (t : List X) × (before_run kind y zs ≡ y ∷ t)
      white_head y [] e = ([], refl)
      white_head y (z ∷ zs) e = elim (bool_cases (is_gap (kind y) && is_gap (kind z))) [
        | inl g ↦ (zs, ap (λ b. cond b ((cond (is_white (kind y)) y z) ∷ zs) (y ∷ z ∷ zs)) g ∙ ap (λ b. (cond b y z) ∷ zs) e)
        | inr g ↦ (z ∷ zs, ap (λ b. cond b ((cond (is_white (kind y)) y z) ∷ zs) (y ∷ z ∷ zs)) g)
      ]

      comment_goes : (y : X) (ys xs : List X) → is_white (kind y) ≡ true → single_gaps kind (y ∷ ys) ≡ xs → single_gaps kind (comment ∷ y ∷ ys) ≡ xs
      comment_goes y ys xs e h =
          let t = white_head y (single_gaps kind ys) e in
          ap (before_run kind comment) t.1
          ∙ run_gaps kind comment y t.0 gap (white_gap (kind y) e)
          ∙ ap (λ b. (cond b comment y) ∷ t.0) dark
          ∙ sym t.1 ∙ h

      single-behind : (x : X) (b : Bool) (ys xs : List X) → (b ≡ true → is_gap (kind x) ≡ false) → single_gaps kind ys ≡ xs → HasNoRuns kind (x ∷ xs) → single_gaps kind (x ∷ behind_taking kind comment b ys) ≡ x ∷ xs
      single-behind x false ys xs f h n = ap (before_run kind x) h ∙ no_run x xs n
      single-behind x true [] xs f h n = ap (before_run kind x) h ∙ no_run x xs n
      single-behind x true (y ∷ ys) xs f h n = elim (bool_cases (is_white (kind y))) [
        | inr e ↦ ap (λ zs. single_gaps kind (x ∷ zs)) (without_white true y ys e) ∙ ap (before_run kind x) h ∙ no_run x xs n
        | inl e ↦ ap (λ zs. single_gaps kind (x ∷ zs)) (with_white y ys e) ∙ ap (before_run kind x) (comment_goes y ys xs e h) ∙ run_solid kind x xs (f refl)
      ]

      pub single-parted : ((x : X) → takes x ≡ true → is_gap (kind x) ≡ false) → (xs : List X) → HasNoRuns kind xs → single_gaps kind (parted kind comment takes xs) ≡ xs
      single-parted f [] n = refl
      single-parted f (x ∷ xs) n = single-behind x (takes x) (parted kind comment takes xs) xs (f x) (single-parted f xs (no_runs_tail kind x xs n)) n
