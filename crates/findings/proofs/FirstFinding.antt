-- The finding that is named stands, and comes first of all.
use Rattle.std.proofs.Common.{◌≡◌, ℕ, zero, suc, length, ◌<◌, List, [], ◌∷◌, Bool, true, false, ◌||◌, ◌&&◌, Some, refl, sym, ◌∙◌, subst, arith, cond, nat_eq, nat_lt, nat_le, IsTrue}
use Rattle.std.specs.List.{AllByRecursion, Contains}
use Rattle.std.proofs.lemmas.Bool.{false≢true}
use Rattle.std.proofs.lemmas.Bool.Decides.{nat_tests}
use Rattle.css_places.specs.declared.finding.Finding.{Finding}
use Rattle.findings.specs.Firsts.{code_number, first_finding, first_from, leads}

-- The order is total and transitive.

-- by two keys, of which the second may be any order
trans-keys : (a b c : ℕ) (p q r : Bool) → (p ≡ true → q ≡ true → r ≡ true) → (nat_lt a b || (nat_eq a b && p)) ≡ true → (nat_lt b c || (nat_eq b c && q)) ≡ true → (nat_lt a c || (nat_eq a c && r)) ≡ true
trans-keys a b c p q true h e f = grind (arith, nat_tests)
trans-keys a b c false q false h e f = grind (arith, nat_tests)
trans-keys a b c true false false h e f = grind (arith, nat_tests)
trans-keys a b c true true false h e f = absurd (false≢true (h refl refl))

trans-codes : (x y z i j k : ℕ) → (nat_lt x y || (nat_eq x y && nat_le i j)) ≡ true → (nat_lt y z || (nat_eq y z && nat_le j k)) ≡ true → (nat_lt x z || (nat_eq x z && nat_le i k)) ≡ true
trans-codes x y z i j k e f = trans-keys x y z (nat_le i j) (nat_le j k) (nat_le i k) (λ m n. grind (arith, nat_tests)) e f

-- the tests of an order, the first of which stands alone
regrouped : (p q r s t : Bool) → ((p || (q && r)) || ((q && s) && t)) ≡ (p || (q && (r || (s && t))))
regrouped true q r s t = refl
regrouped false true r s t = refl
regrouped false false r s t = refl

trans-tests : (a b c x y z i j k : ℕ) → ((nat_lt a b || (nat_eq a b && nat_lt x y)) || ((nat_eq a b && nat_eq x y) && nat_le i j)) ≡ true
    → ((nat_lt b c || (nat_eq b c && nat_lt y z)) || ((nat_eq b c && nat_eq y z) && nat_le j k)) ≡ true
    → ((nat_lt a c || (nat_eq a c && nat_lt x z)) || ((nat_eq a c && nat_eq x z) && nat_le i k)) ≡ true
trans-tests a b c x y z i j k e f =
    regrouped (nat_lt a c) (nat_eq a c) (nat_lt x z) (nat_eq x z) (nat_le i k)
    ∙ trans-keys a b c (nat_lt x y || (nat_eq x y && nat_le i j)) (nat_lt y z || (nat_eq y z && nat_le j k)) (nat_lt x z || (nat_eq x z && nat_le i k)) (trans-codes x y z i j k)
    (sym (regrouped (nat_lt a b) (nat_eq a b) (nat_lt x y) (nat_eq x y) (nat_le i j)) ∙ e)
    (sym (regrouped (nat_lt b c) (nat_eq b c) (nat_lt y z) (nat_eq y z) (nat_le j k)) ∙ f)

total-tests : (a b x y i j : ℕ) → ((nat_lt a b || (nat_eq a b && nat_lt x y)) || ((nat_eq a b && nat_eq x y) && nat_le i j)) ≡ false
    → ((nat_lt b a || (nat_eq b a && nat_lt y x)) || ((nat_eq b a && nat_eq y x) && nat_le j i)) ≡ true
total-tests a b x y i j e = grind (arith, nat_tests)

self-tests : (a x i : ℕ) → ((nat_lt a a || (nat_eq a a && nat_lt x x)) || ((nat_eq a a && nat_eq x x) && nat_le i i)) ≡ true
self-tests a x i = grind (arith, nat_tests)

leads-trans : (f g h : Finding) → leads f g ≡ true → leads g h ≡ true → leads f h ≡ true
leads-trans f g h = trans-tests f.place.file g.place.file h.place.file f.place.offset g.place.offset h.place.offset (code_number f.code) (code_number g.code) (code_number h.code)

leads-total : (f g : Finding) → leads f g ≡ false → leads g f ≡ true
leads-total f g = total-tests f.place.file g.place.file f.place.offset g.place.offset (code_number f.code) (code_number g.code)

leads-self : (f : Finding) → leads f f ≡ true
leads-self f = self-tests f.place.file f.place.offset (code_number f.code)

-- What is named.

record IsFirst (fs : List Finding) (f : Finding) : Type 0 where
  stands : Contains fs f
  leads : AllByRecursion (λ g. IsTrue (leads f g)) fs

stands-here : (f : Finding) (fs : List Finding) → Contains (f ∷ fs) f
stands-here f fs = (0, omega arith, refl)

stands-later : (f g : Finding) (fs : List Finding) → Contains fs f → Contains (g ∷ fs) f
stands-later f g fs h = let place : h.0 < length fs = h.1 in (suc h.0, omega arith, h.2)

-- the second of a list and its first change their places
stands-swapped : (f g r : Finding) (fs : List Finding) → Contains (f ∷ fs) r → Contains (f ∷ g ∷ fs) r
stands-swapped f g r fs (zero, within, is) = (0, omega arith, is)
stands-swapped f g r fs (suc n, within, is) = let place : suc n < suc (length fs) = within in (suc (suc n), omega arith, is)

first-kept : (f g r : Finding) (fs : List Finding) → leads f g ≡ true → IsFirst (f ∷ fs) r → IsFirst (f ∷ g ∷ fs) r
first-kept f g r fs e first = record {
  stands = stands-swapped f g r fs first.stands;
  leads = (first.leads.0, (leads-trans r f g first.leads.0 e, first.leads.1));
}

first-taken : (f g r : Finding) (fs : List Finding) → leads f g ≡ false → IsFirst (g ∷ fs) r → IsFirst (f ∷ g ∷ fs) r
first-taken f g r fs e first = record {
  stands = stands-later r f (g ∷ fs) first.stands;
  leads = (leads-trans r g f first.leads.0 (leads-total f g e), first.leads);
}

first-of : (f : Finding) (fs : List Finding) (r : Finding) → first_from (Some f) fs ≡ Some r → IsFirst (f ∷ fs) r
first-of f [] r e = let same : f ≡ r = cc e in subst (IsFirst (f ∷ [])) same (record { stands = stands-here f []; leads = (leads-self f, tt) })
first-of f (g ∷ gs) r e = by (leads f g) refl e (first-of f gs r) (first-of g gs r)
  where
    by : (b : Bool) → leads f g ≡ b → first_from (cond b (Some f) (Some g)) gs ≡ Some r → (first_from (Some f) gs ≡ Some r → IsFirst (f ∷ gs) r) → (first_from (Some g) gs ≡ Some r → IsFirst (g ∷ gs) r) → IsFirst (f ∷ g ∷ gs) r
    by true is h kept taken = first-kept f g r gs is (kept h)
    by false is h kept taken = first-taken f g r gs is (taken h)

first-named : (fs : List Finding) (r : Finding) → first_finding fs ≡ Some r → IsFirst fs r
first-named [] r e = absurd (cc e)
first-named (f ∷ fs) r e = first-of f fs r e

pub first-stands : (fs : List Finding) (r : Finding) → first_finding fs ≡ Some r → Contains fs r
first-stands fs r e = (first-named fs r e).stands

pub first-leads : (fs : List Finding) (r : Finding) → first_finding fs ≡ Some r → AllByRecursion (λ g. IsTrue (leads r g)) fs
first-leads fs r e = (first-named fs r e).leads
