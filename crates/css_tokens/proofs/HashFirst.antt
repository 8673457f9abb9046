-- A Hash begins with `#`, so that what is told of a text behind a `#` is told of every Hash.
use Rattle.std.proofs.Common.{◌≡◌, ℕ, List, [], ◌∷◌, Bool, true, false, ◌&&◌, ◌||◌, not, Some, refl, sym, ◌∙◌, ap, ap₂, subst, arith, nat_eq, if◌then◌else◌, inl, inr}
use Rattle.std.specs.List.{list_any}
use Rattle.std.proofs.lemmas.Bool.{cases_Bool, eqb-true, false≢true}
use Rattle.std.specs.Str.{IsUtf8}
use Rattle.std.proofs.lemmas.Bool.Decides.{nat_tests}
use Rattle.std.proofs.lemmas.Str.{IsUtf8-drop, IsCharBoundary-after_ascii}
use Rattle.css_tokens.specs.declared.kind.Kind.{Kind}
use Rattle.css_tokens.specs.declared.kind.Kind.TheVariants as kinds
use Rattle.css_tokens.specs.Characters.{class_of, has, mark_of}
use Rattle.css_tokens.specs.Kinds.{Row, begins, hash, is_kind, kind_of, name_part, table}
use Rattle.css_tokens.specs.Names.{is_name, name_of_word}
use Rattle.css_tokens.specs.Patterns.{Star, any_cut, fits, is_empty, ◌⋅◌}
use Rattle.css_tokens.specs.Tokens.{classes_of, names, spells}
use Rattle.css_tokens.proofs.DecodedNames.{hash_name}

or-true : (x y : Bool) → y ≡ true → (x || y) ≡ true
or-true true y e = refl
or-true false y e = e

or-false : (x : Bool) → (x || false) ≡ true → x ≡ true
or-false true h = refl
or-false false h = h

-- is there a row of this kind that the text fits?
abbrev is_row : Kind → List ℕ → Row → Bool
is_row k text r = is_kind k r.kind && fits r.pattern (classes_of text)

-- a text of a kind fits a row of that kind
kind-row : (k : Kind) (rows : List Row) (text : List ℕ) → names k (kind_of rows (classes_of text) []) ≡ true → list_any (is_row k text) rows ≡ true
kind-row k [] text h = absurd (cc h)
kind-row k (r ∷ rows) text h = at (kind-row k rows text) (fits r.pattern (classes_of text)) (not (begins r.barred [])) refl h
  where
    at : (names k (kind_of rows (classes_of text) []) ≡ true → list_any (is_row k text) rows ≡ true)
        → (p q : Bool) → fits r.pattern (classes_of text) ≡ p → names k (if p && q then Some r.kind else kind_of rows (classes_of text) []) ≡ true
        → (is_row k text r || list_any (is_row k text) rows) ≡ true
    at more true true e h = ap₂ (λ x y. (x && y) || list_any (is_row k text) rows) h e
    at more true false e h = or-true (is_row k text r) (list_any (is_row k text) rows) (more h)
    at more false q e h = or-true (is_row k text r) (list_any (is_row k text) rows) (more h)

-- the ways to cut a text in two
module _ {C : Type 0} (cut : (List C → Bool) → (List C → Bool) → List C → Bool)
    (ends : (front rest : List C → Bool) → cut front rest [] ≡ (front [] && rest []))
    (goes : (front rest : List C → Bool) (x : C) (s : List C) → cut front rest (x ∷ s) ≡ ((front [] && rest (x ∷ s)) || cut (λ t. front (x ∷ t)) rest s)) where
  -- no cut has a front that passes the test
  cut-none : (front rest : List C → Bool) (s : List C) → ((t : List C) → front t ≡ false) → cut front rest s ≡ false
  cut-none front rest [] none = ends front rest ∙ ap (λ b. b && rest []) (none [])
  cut-none front rest (y ∷ s) none =
      goes front rest y s
      ∙ ap₂ ◌||◌ (ap (λ b. b && rest (y ∷ s)) (none [])) (cut-none (λ t. front (y ∷ t)) rest s (λ t. none (y ∷ t)))

  -- what every front passes holds
  cut-first : (p : Bool) (front rest : List C → Bool) (s : List C) → cut (λ t. p && front t) rest s ≡ true → p ≡ true
  cut-first true front rest s h = refl
  cut-first false front rest s h = absurd (false≢true (sym (cut-none (λ t. false && front t) rest s (λ t. refl)) ∙ h))

mark-no-hash : (b : ℕ) → has (class_of 35 ∷ []) (mark_of b) ≡ false
mark-no-hash b = grind (arith, nat_tests)

no-hash : (b : ℕ) → nat_eq b 35 ≡ false → has (class_of 35 ∷ []) (class_of b) ≡ false
no-hash b e = grind (arith, nat_tests, mark-no-hash b)

hash-class : (b : ℕ) → has (class_of 35 ∷ []) (class_of b) ≡ true → b ≡ 35
hash-class b h = elim (cases_Bool (nat_eq b 35)) [
  | inl e ↦ eqb-true b 35 e
  | inr e ↦ absurd (false≢true (sym (no-hash b e) ∙ h))
]

hash-first : (b : ℕ) (bs : List ℕ) → spells kinds.Hash (b ∷ bs) ≡ true → b ≡ 35
unfolding spells
hash-first b bs h =
    let row : list_any (is_row kinds.Hash (b ∷ bs)) table ≡ true = kind-row kinds.Hash table (b ∷ bs) (or-false (names kinds.Hash (kind_of table (classes_of (b ∷ bs)) [])) h) in
    let fit : fits hash (classes_of (b ∷ bs)) ≡ true = or-false (fits hash (classes_of (b ∷ bs))) row in
    hash-class b (cut-first any_cut (λ front rest. refl) (λ front rest x s. refl) (has (class_of 35 ∷ []) (class_of b)) is_empty (fits (name_part ⋅ Star name_part)) (classes_of bs) fit)

no-empty : spells kinds.Hash [] ≡ true → ⊥
unfolding spells
no-empty h = false≢true h

-- what a Hash in UTF-8 holds is a name
pub any_hash_name : (t : List ℕ) → IsUtf8 t → spells kinds.Hash t ≡ true → is_name (name_of_word kinds.Hash t) ≡ true
any_hash_name [] u h = absurd (no-empty h)
any_hash_name (b ∷ bs) u h =
    subst (λ (x : ℕ). IsUtf8 (x ∷ bs) → spells kinds.Hash (x ∷ bs) ≡ true → is_name (name_of_word kinds.Hash (x ∷ bs)) ≡ true)
    (sym (hash-first b bs h)) (λ v k. hash_name bs (behind v) k) u h
  where
    behind : IsUtf8 (35 ∷ bs) → IsUtf8 bs
    behind v = IsUtf8-drop (35 ∷ bs) 1 v (IsCharBoundary-after_ascii (35 ∷ bs) 0 v (omega arith) (omega arith))
