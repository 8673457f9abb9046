-- Runs of gaps made single.
use Rattle.std.proofs.Common.{◌≡◌, List, [], ◌∷◌, Bool, true, false, cond, ◌&&◌, refl, ap, sym, ◌∙◌, inl, inr, ◌⊎◌}
use Rattle.css_tokens.specs.declared.kind.Kind.{Kind}
use Rattle.css_tokens.specs.declared.kind.Kind.TheVariants.{White, Comment}
use Rattle.css_tokens.specs.Values.{is_white, is_gap, before_run, after_gap, before_gap}

-- white space, a comment, or neither
pub kind_cases : (k : Kind) → (k ≡ White) ⊎ ((k ≡ Comment) ⊎ (is_gap k ≡ false))
kind_cases White = inl refl
kind_cases Comment = inr (inl refl)
kind_cases _ = inr (inr refl)

pub not_white : (k : Kind) → is_gap k ≡ false → is_white k ≡ false
not_white White e = cc
not_white _ e = refl

pub bool_cases : (b : Bool) → (b ≡ true) ⊎ (b ≡ false)
bool_cases true = inl refl
bool_cases false = inr refl

module _ {X : Type 0} (kind : X → Kind) where
  pub run_solid : (x : X) (ys : List X) → is_gap (kind x) ≡ false → before_run kind x ys ≡ x ∷ ys
  run_solid x [] e = refl
  run_solid x (y ∷ ys) e = ap (λ b. cond (b && is_gap (kind y)) ((cond (is_white (kind x)) x y) ∷ ys) (x ∷ y ∷ ys)) e

  pub run_before_solid : (x y : X) (ys : List X) → is_gap (kind x) ≡ true → is_gap (kind y) ≡ false → before_run kind x (y ∷ ys) ≡ x ∷ y ∷ ys
  run_before_solid x y ys e f = ap (λ b. cond (b && is_gap (kind y)) ((cond (is_white (kind x)) x y) ∷ ys) (x ∷ y ∷ ys)) e ∙ ap (λ b. cond b ((cond (is_white (kind x)) x y) ∷ ys) (x ∷ y ∷ ys)) f

  pub run_gaps : (x y : X) (ys : List X) → is_gap (kind x) ≡ true → is_gap (kind y) ≡ true → before_run kind x (y ∷ ys) ≡ (cond (is_white (kind x)) x y) ∷ ys
  run_gaps x y ys e f = ap (λ b. cond (b && is_gap (kind y)) ((cond (is_white (kind x)) x y) ∷ ys) (x ∷ y ∷ ys)) e ∙ ap (λ b. cond b ((cond (is_white (kind x)) x y) ∷ ys) (x ∷ y ∷ ys)) f

  -- of two gaps the one that is kept
  abbrev pub kept : X → X → X
  kept x y = cond (is_white (kind x)) x y

  pub kept_white : (x y : X) → is_white (kind x) ≡ true → kept x y ≡ x
  kept_white x y e = ap (λ b. cond b x y) e

  pub kept_other : (x y : X) → is_white (kind x) ≡ false → kept x y ≡ y
  kept_other x y e = ap (λ b. cond b x y) e

  pub is_gap-kept : (x y : X) → is_gap (kind x) ≡ true → is_gap (kind y) ≡ true → is_gap (kind (kept x y)) ≡ true
  is_gap-kept x y e f = elim (bool_cases (is_white (kind x))) [
    | inl w ↦ ap (λ z. is_gap (kind z)) (kept_white x y w) ∙ e
    | inr w ↦ ap (λ z. is_gap (kind z)) (kept_other x y w) ∙ f
  ]

  pub kept-kept : (x y z : X) → kept x (kept y z) ≡ kept (kept x y) z
  kept-kept x y z = elim (bool_cases (is_white (kind x))) [
    | inl w ↦ kept_white x (kept y z) w ∙ sym (ap (λ k. kept k z) (kept_white x y w) ∙ kept_white x z w)
    | inr w ↦ kept_other x (kept y z) w ∙ sym (ap (λ k. kept k z) (kept_other x y w))
  ]

  pub before_gap-solid : (x : X) (ys : List X) → is_gap (kind x) ≡ false → before_gap kind (x ∷ ys) ≡ x ∷ before_gap kind ys
  before_gap-solid x [] e = ap (λ b. cond b [] (x ∷ [])) e
  before_gap-solid x (y ∷ ys) e = refl

  pub after_gap-solid : (x : X) (ys : List X) → is_gap (kind x) ≡ false → after_gap kind (x ∷ ys) ≡ x ∷ ys
  after_gap-solid x ys e = ap (λ b. cond b ys (x ∷ ys)) e

  pub after_gap-run : (x : X) (ys : List X) → is_gap (kind x) ≡ true → after_gap kind (before_run kind x ys) ≡ after_gap kind ys
  after_gap-run x [] e = ap (λ b. cond b [] (x ∷ [])) e
  after_gap-run x (y ∷ ys) e = elim (bool_cases (is_gap (kind y))) [
    | inl g ↦ ap (after_gap kind) (run_gaps x y ys e g) ∙ ap (λ b. cond b ys (kept x y ∷ ys)) (is_gap-kept x y e g) ∙ sym (ap (λ b. cond b ys (y ∷ ys)) g)
    | inr s ↦ ap (after_gap kind) (run_before_solid x y ys e s) ∙ ap (λ b. cond b (y ∷ ys) (x ∷ y ∷ ys)) e ∙ sym (after_gap-solid y ys s)
  ]

  pub run-run : (x y : X) (ys : List X) → is_gap (kind x) ≡ true → is_gap (kind y) ≡ true → before_run kind x (before_run kind y ys) ≡ before_run kind (kept x y) ys
  run-run x y [] e f = run_gaps x y [] e f
  run-run x y (z ∷ zs) e f = elim (bool_cases (is_gap (kind z))) [
    | inl g ↦ ap (before_run kind x) (run_gaps y z zs f g) ∙ run_gaps x (kept y z) zs e (is_gap-kept y z f g) ∙ ap (λ k. k ∷ zs) (kept-kept x y z) ∙ sym (run_gaps (kept x y) z zs (is_gap-kept x y e f) g)
    | inr s ↦ ap (before_run kind x) (run_before_solid y z zs f s) ∙ run_gaps x y (z ∷ zs) e f ∙ sym (run_before_solid (kept x y) z zs (is_gap-kept x y e f) s)
  ]
