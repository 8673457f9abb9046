-- A path cut at its first slash.
use Rattle.std.proofs.Common.{◌≡◌, ℕ, ◌+◌, ◌<◌, List, [], ◌∷◌, ◌++◌, length, take, drop, add-one, suc, Bool, true, false, nat_eq, refl, sym, ◌∙◌, ap, arith, inl, inr}
use Rattle.std.specs.List.{position_or_len, before_first, after_first}
use Rattle.std.proofs.lemmas.Bool.{cases_Bool}
use Rattle.css_places.specs.Parts.{Parts, is_slash, parts_of, with_front}

-- one folder more in front
abbrev pub folder_before : List ℕ → Parts → Parts
folder_before folder parts = record { folders = folder ∷ parts.folders; name = parts.name }

pub parts-whole : (path : List ℕ) → position_or_len is_slash path ≡ length path → parts_of path ≡ record { folders = []; name = path }
parts-whole [] none = refl
parts-whole (c ∷ path) none = elim (cases_Bool (is_slash c)) [
  | inl e ↦ absurd (cc (none, e))
  | inr e ↦ rw e (ap (with_front c) (parts-whole path (grind arith)))
]

-- a character more in front of a cut at this place
cut-moved : (c : ℕ) (path : List ℕ) (n m : ℕ) → m ≡ suc n
    → folder_before (c ∷ take n path) (parts_of (drop (n + 1) path)) ≡ folder_before (take m (c ∷ path)) (parts_of (drop (m + 1) (c ∷ path)))
cut-moved c path n m is =
    let a = add-one n in
    let b = add-one (suc n) in
    rw is (rw (a, b) refl)

pub parts-cut : (path : List ℕ) → position_or_len is_slash path < length path → parts_of path ≡ folder_before (before_first is_slash path) (parts_of (after_first is_slash path))
parts-cut [] some = absurd (omega arith)
parts-cut (c ∷ path) some = elim (cases_Bool (is_slash c)) [
  | inl e ↦ rw e refl
  | inr e ↦ rw e (ap (with_front c) (parts-cut path (grind arith)) ∙ cut-moved c path (position_or_len is_slash path) (1 + position_or_len is_slash path) (omega arith))
]

pub ruleset cuts = (parts-whole, parts-cut)
