-- Which refusal is named.
use Rattle.std.proofs.Common.{◌≡◌, ℕ, ◌+◌, ◌<◌, ◌≤◌, List, [], ◌∷◌, ◌++◌, Bool, true, false, ◌||◌, ◌&&◌, Option, Some, None, refl, sym, ◌∙◌, ap, arith, cond, inl, inr, length, drop, get_or, nat_eq, nat_lt, nat_le, add-one, slice_range}
use Rattle.std.specs.List.{starts_with}
use Rattle.std.proofs.Math.Seq.{drop-cons}
use Rattle.std.proofs.lemmas.List.{take_rest}
use Rattle.std.proofs.lemmas.Bool.Decides.{nat_tests}
use Rattle.css_rules.specs.declared.refusal.Refusal.{Refusal}
use Rattle.std.proofs.lemmas.Bool.{cases_Bool}
use Rattle.css_rules.specs.Refusals.{holds, rank, leads, sooner, sooner_of, first_refusal}

drop-more : {X : Type 0} (xs : List X) (i : ℕ) (d : X) → i < length xs → drop i xs ≡ get_or xs i d ∷ drop (i + 1) xs
drop-more xs i d lt = drop-cons xs i d lt ∙ ap (λ n. get_or xs i d ∷ drop n xs) (sym (add-one i))

-- all that is left
slice_range-end : (xs : List ℕ) (i : ℕ) → slice_range xs i (length xs) ≡ drop i xs
slice_range-end xs i = take_rest xs i

-- whether the word begins here, or further on
pub holds-here : (word text : List ℕ) (i : ℕ) (b : Bool) → i < length text → starts_with nat_eq (slice_range text i (length text)) word ≡ b → holds word (drop i text) ≡ (b || holds word (drop (i + 1) text))
holds-here word text i b lt starts =
    let rest = drop-more text i 0 lt in
    ap (holds word) rest
    ∙ ap (λ here. starts_with nat_eq here word || holds word (drop (i + 1) text)) (sym rest)
    ∙ ap (λ here. starts_with nat_eq here word || holds word (drop (i + 1) text)) (sym (slice_range-end text i))
    ∙ ap (λ here. here || holds word (drop (i + 1) text)) starts

-- The order is total and transitive.

trans-tests : (a b c x y z : ℕ) → (nat_lt a b || (nat_eq a b && nat_le x y)) ≡ true → (nat_lt b c || (nat_eq b c && nat_le y z)) ≡ true → (nat_lt a c || (nat_eq a c && nat_le x z)) ≡ true
trans-tests a b c x y z e f = grind (arith, nat_tests)

total-tests : (a b x y : ℕ) → (nat_lt a b || (nat_eq a b && nat_le x y)) ≡ false → (nat_lt b a || (nat_eq b a && nat_le y x)) ≡ true
total-tests a b x y e = grind (arith, nat_tests)

behind-tests : (a b c x y z : ℕ) → (nat_lt a b || (nat_eq a b && nat_le x y)) ≡ false → (nat_lt b c || (nat_eq b c && nat_le y z)) ≡ false → (nat_lt a c || (nat_eq a c && nat_le x z)) ≡ false
behind-tests a b c x y z e f = grind (arith, nat_tests)

self-tests : (a x : ℕ) → (nat_lt a a || (nat_eq a a && nat_le x x)) ≡ true
self-tests a x = grind (arith, nat_tests)

place-tests : (a b x y : ℕ) → (nat_lt a b || (nat_eq a b && nat_le x y)) ≡ true → a ≤ b
place-tests a b x y e = grind (arith, nat_tests)

pub leads-trans : (r s t : Refusal) → leads r s ≡ true → leads s t ≡ true → leads r t ≡ true
leads-trans r s t = trans-tests r.at s.at t.at (rank r.cause) (rank s.cause) (rank t.cause)

pub leads-total : (r s : Refusal) → leads r s ≡ false → leads s r ≡ true
leads-total r s = total-tests r.at s.at (rank r.cause) (rank s.cause)

leads-behind : (r s t : Refusal) → leads r s ≡ false → leads s t ≡ false → leads r t ≡ false
leads-behind r s t = behind-tests r.at s.at t.at (rank r.cause) (rank s.cause) (rank t.cause)

pub leads-self : (r : Refusal) → leads r r ≡ true
leads-self r = self-tests r.at (rank r.cause)

pub leads-place : (r s : Refusal) → leads r s ≡ true → r.at ≤ s.at
leads-place r s = place-tests r.at s.at (rank r.cause) (rank s.cause)

pub sooner-first : (r s : Refusal) → leads r s ≡ true → sooner r s ≡ r
sooner-first r s e = ap (λ b. cond b r s) e

pub sooner-second : (r s : Refusal) → leads r s ≡ false → sooner r s ≡ s
sooner-second r s e = ap (λ b. cond b r s) e

pub sooner-assoc : (a b c : Refusal) → sooner (sooner a b) c ≡ sooner a (sooner b c)
sooner-assoc a b c = elim (cases_Bool (leads a b)) [
  | inl ab ↦ ap (λ r. sooner r c) (sooner-first a b ab) ∙ elim (cases_Bool (leads b c)) [
    | inl bc ↦ sooner-first a c (leads-trans a b c ab bc) ∙ sym (ap (sooner a) (sooner-first b c bc) ∙ sooner-first a b ab)
    | inr cb ↦ sym (ap (sooner a) (sooner-second b c cb))
  ]
  | inr ba ↦ ap (λ r. sooner r c) (sooner-second a b ba) ∙ elim (cases_Bool (leads b c)) [
    | inl bc ↦ sooner-first b c bc ∙ sym (ap (sooner a) (sooner-first b c bc) ∙ sooner-second a b ba)
    | inr cb ↦ sooner-second b c cb ∙ sym (ap (sooner a) (sooner-second b c cb) ∙ sooner-second a c (leads-behind a b c ba cb))
  ]
]

pub sooner_of-assoc : (a b c : Option Refusal) → sooner_of (sooner_of a b) c ≡ sooner_of a (sooner_of b c)
sooner_of-assoc None b c = refl
sooner_of-assoc (Some a) None c = refl
sooner_of-assoc (Some a) (Some b) None = refl
sooner_of-assoc (Some a) (Some b) (Some c) = ap Some (sooner-assoc a b c)

-- of two lists the sooner of their firsts is named
pub first_refusal-append : (xs ys : List Refusal) → first_refusal (xs ++ ys) ≡ sooner_of (first_refusal xs) (first_refusal ys)
first_refusal-append [] ys = refl
first_refusal-append (x ∷ xs) ys = ap (sooner_of (Some x)) (first_refusal-append xs ys) ∙ sym (sooner_of-assoc (Some x) (first_refusal xs) (first_refusal ys))

-- none is named only where none stands
pub first_refusal-none : (xs : List Refusal) → first_refusal xs ≡ None → xs ≡ []
first_refusal-none [] e = refl
first_refusal-none (x ∷ xs) e = some x (first_refusal xs) e
  where
    some : (r : Refusal) (o : Option Refusal) → sooner_of (Some r) o ≡ None → r ∷ xs ≡ []
    some r None none = absurd (cc none)
    some r (Some q) none = absurd (cc none)

pub sooner_of-none_left : (a b : Option Refusal) → sooner_of a b ≡ None → a ≡ None
sooner_of-none_left None b e = refl
sooner_of-none_left (Some a) None e = e
sooner_of-none_left (Some a) (Some b) e = absurd (cc e)

pub sooner_of-none_right : (a b : Option Refusal) → sooner_of a b ≡ None → b ≡ None
sooner_of-none_right None b e = e
sooner_of-none_right (Some a) None e = refl
sooner_of-none_right (Some a) (Some b) e = absurd (cc e)
