-- The refusal that is named stands, and leads all others.
use Rattle.std.proofs.Common.{◌≡◌, suc, length, ◌<◌, List, [], ◌∷◌, refl, sym, subst, Option, Some, None, inl, inr, ◌⊎◌, arith, IsTrue}
use Rattle.std.specs.List.{AllByRecursion, Contains}
use Rattle.std.proofs.lemmas.Bool.{cases_Bool}
use Rattle.css_rules.specs.declared.refusal.Refusal.{Refusal}
use Rattle.css_rules.specs.Refusals.{leads, sooner, sooner_of, first_refusal}
use Rattle.css_rules.proofs.RefusalLemmas.{leads-trans, leads-total, leads-self, sooner-first, sooner-second}

abbrev Leads : Refusal → Refusal → Type 0
Leads r s = IsTrue (leads r s)

-- the sooner of two is one of them and leads both
abbrev Chosen : Refusal → Refusal → Refusal → Type 0
Chosen q r s = ((s ≡ q) × Leads q r) ⊎ ((s ≡ r) × Leads r q)

sooner-chosen : (q r : Refusal) → Chosen q r (sooner q r)
sooner-chosen q r = elim (cases_Bool (leads q r)) [
  | inl first ↦ inl (sooner-first q r first, first)
  | inr second ↦ inr (sooner-second q r second, leads-total q r second)
]

record IsFirst (rs : List Refusal) (r : Refusal) : Type 0 where
  stands : Contains rs r
  leads : AllByRecursion (Leads r) rs

all-lead : (q r : Refusal) (rs : List Refusal) → Leads q r → AllByRecursion (Leads r) rs → AllByRecursion (Leads q) rs
all-lead q r [] h k = tt
all-lead q r (s ∷ rs) h k = (leads-trans q r s h k.0, all-lead q r rs h k.1)

stands-here : (q : Refusal) (rs : List Refusal) → Contains (q ∷ rs) q
stands-here q rs = (0, omega arith, refl)

stands-later : (q r : Refusal) (rs : List Refusal) → Contains rs r → Contains (q ∷ rs) r
stands-later q r rs h = let place : h.0 < length rs = h.1 in (suc h.0, omega arith, h.2)

one-more : (q r : Refusal) (rs : List Refusal) (s : Refusal) → Chosen q r s → IsFirst rs r → IsFirst (q ∷ rs) s
one-more q r rs s (inl h) k =
    subst (IsFirst (q ∷ rs)) (sym h.0) (record { stands = stands-here q rs; leads = (leads-self q, all-lead q r rs h.1 k.leads) })
one-more q r rs s (inr h) k =
    subst (IsFirst (q ∷ rs)) (sym h.0) (record { stands = stands-later q r rs k.stands; leads = (h.1, k.leads) })

-- what is named of a list is its first
abbrev NamesFirst : List Refusal → Option Refusal → Type 0
NamesFirst rs None = rs ≡ []
NamesFirst rs (Some r) = IsFirst rs r

named-more : (q : Refusal) (rs : List Refusal) (o : Option Refusal) → NamesFirst rs o → NamesFirst (q ∷ rs) (sooner_of (Some q) o)
named-more q rs None h = subst (λ qs. IsFirst (q ∷ qs) q) (sym h) (record { stands = stands-here q []; leads = (leads-self q, tt) })
named-more q rs (Some r) h = one-more q r rs (sooner q r) (sooner-chosen q r) h

named : (rs : List Refusal) → NamesFirst rs (first_refusal rs)
named [] = refl
named (r ∷ rs) = named-more r rs (first_refusal rs) (named rs)

first-of : (rs : List Refusal) (r : Refusal) → first_refusal rs ≡ Some r → IsFirst rs r
first-of rs r e = subst (NamesFirst rs) e (named rs)

pub first-stands : (rs : List Refusal) (r : Refusal) → first_refusal rs ≡ Some r → Contains rs r
first-stands rs r e = (first-of rs r e).stands

pub first-least : (rs : List Refusal) (r : Refusal) → first_refusal rs ≡ Some r → AllByRecursion (λ s. IsTrue (leads r s)) rs
first-least rs r e = (first-of rs r e).leads
