-- A text with others in place of a character, cut at the first of them.
use Rattle.std.proofs.Common.{◌≡◌, ℕ, ◌+◌, ◌<◌, List, [], ◌∷◌, ◌++◌, length, take, drop, add-one, suc, Bool, nat_eq, refl, sym, ◌∙◌, ap, arith, inl, inr}
use Rattle.std.specs.List.{position_or_len, before_first, after_first}
use Rattle.std.proofs.lemmas.Bool.{cases_Bool}
use Rattle.std.proofs.lemmas.List.{append_assoc}
use Rattle.css_places.specs.Rebasing.{replaced}

pub replaced-none : (c : ℕ) (by text : List ℕ) → position_or_len (λ d. nat_eq d c) text ≡ length text → replaced c by text ≡ text
replaced-none c by [] none = refl
replaced-none c by (d ∷ text) none = elim (cases_Bool (nat_eq d c)) [
  | inl e ↦ absurd (cc (none, e))
  | inr e ↦ rw e (ap (λ t. d ∷ t) (replaced-none c by text (grind arith)))
]

-- a character more in front of a cut at this place
cut-moved : (c : ℕ) (by : List ℕ) (d : ℕ) (text : List ℕ) (n m : ℕ) → m ≡ suc n
    → d ∷ (take n text ++ (by ++ replaced c by (drop (n + 1) text))) ≡ take m (d ∷ text) ++ (by ++ replaced c by (drop (m + 1) (d ∷ text)))
cut-moved c by d text n m is =
    let a = add-one n in
    let b = add-one (suc n) in
    rw is (rw (a, b) refl)

pub replaced-cut : (c : ℕ) (by text : List ℕ) → position_or_len (λ d. nat_eq d c) text < length text
    → replaced c by text ≡ before_first (λ d. nat_eq d c) text ++ (by ++ replaced c by (after_first (λ d. nat_eq d c) text))
replaced-cut c by [] some = absurd (omega arith)
replaced-cut c by (d ∷ text) some = elim (cases_Bool (nat_eq d c)) [
  | inl e ↦ rw e refl
  | inr e ↦ rw e (ap (λ t. d ∷ t) (replaced-cut c by text (grind arith)) ∙ cut-moved c by d text (position_or_len (λ d. nat_eq d c) text) (1 + position_or_len (λ d. nat_eq d c) text) (omega arith))
]

pub ruleset replacing = (replaced-none, replaced-cut, append_assoc)
