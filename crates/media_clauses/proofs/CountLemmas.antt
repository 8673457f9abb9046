-- How long lists of clauses are.
use Rattle.std.proofs.Common.{◌≡◌, ℕ, List, [], ◌∷◌, ◌++◌, ◌+◌, ◌*◌, ◌-◌, ◌^◌, ◌<◌, ◌≤◌, map, length, take, get_or, ◌⊎◌, inl, inr, suc, ◌∙◌, ap, ap₂, sym, subst, arith, length-append}
use Rattle.std.specs.Prelude.{min}
use Rattle.std.proofs.lemmas.Bool.{cases_lt}
use Rattle.std.proofs.lemmas.List.{length-map, map-append}
use Rattle.std.proofs.lemmas.List.Sums.{fold_push}
use Rattle.std.proofs.lemmas.Grind.{take_at_read}
use Rattle.std.proofs.Math.Nat.{le-mul_of_pos_right, mul_comm}
use Rattle.media_spelling.specs.declared.condition.Prefix.TheVariants.{Plain, Only, Not}
use Rattle.media_clauses.specs.declared.clause.Clause.{Clause}
use Rattle.media_clauses.specs.declared.clause.Fact.{Fact}
use Rattle.media_clauses.specs.Clauses.{Sides, alone, joined, negative, never, positive, prefixed_clauses, product, products}
use Rattle.media_clauses.specs.Counts.{capped}

-- Products of capped numbers.

least : (k x : ℕ) → x ≤ k → min x k ≡ x
least k x h = omega arith

most : (k x : ℕ) → k ≤ x → min x k ≡ k
most k x h = omega arith

-- a product of which the first factor is capped, and the second is not 0
cap-first : (k a b : ℕ) → 0 < k → k ≤ a → 0 < b → min (min a k * min b k) k ≡ min (a * b) k
cap-first k a b p h q =
    let positive : 0 < min b k = omega arith in
    let left : k ≤ k * min b k = le-mul_of_pos_right k positive in
    let first : a ≤ a * b = le-mul_of_pos_right a q in
    let right : k ≤ a * b = omega arith in
    ap (λ (m : ℕ). min (m * min b k) k) (most k a h) ∙ most k (k * min b k) left ∙ sym (most k (a * b) right)

zero-mul : (k b : ℕ) → min (min 0 k * min b k) k ≡ min (0 * b) k
zero-mul k b = ap (λ (m : ℕ). min (m * min b k) k) (least k 0 (omega arith)) ∙ ap (λ (m : ℕ). min m k) (nothing (min b k) ∙ sym (nothing b))
  where
    nothing : (n : ℕ) → 0 * n ≡ 0
    nothing n = omega arith

swapped : (k a b : ℕ) → min (min b k * min a k) k ≡ min (b * a) k → min (min a k * min b k) k ≡ min (a * b) k
swapped k a b h = ap (λ (m : ℕ). min m k) (mul_comm (min a k) (min b k)) ∙ h ∙ ap (λ (m : ℕ). min m k) (mul_comm b a)

mul-cases : (k a b : ℕ) → 0 < k → (0 < a) ⊎ (a ≤ 0) → (0 < b) ⊎ (b ≤ 0) → (k < a) ⊎ (a ≤ k) → (k < b) ⊎ (b ≤ k) → min (min a k * min b k) k ≡ min (a * b) k
mul-cases k a b p (inr z) d f g = let e : a ≡ 0 = omega arith in subst (λ (m : ℕ). min (min m k * min b k) k ≡ min (m * b) k) (sym e) (zero-mul k b)
mul-cases k a b p (inl c) (inr z) f g = let e : b ≡ 0 = omega arith in swapped k a b (subst (λ (m : ℕ). min (min m k * min a k) k ≡ min (m * a) k) (sym e) (zero-mul k a))
mul-cases k a b p (inl c) (inl d) (inl f) g = cap-first k a b p (omega arith) d
mul-cases k a b p (inl c) (inl d) (inr f) (inl g) = swapped k a b (cap-first k b a p (omega arith) c)
mul-cases k a b p (inl c) (inl d) (inr f) (inr g) = ap₂ (λ (m n : ℕ). min (m * n) k) (least k a f) (least k b g)

cap-mul : (k a b : ℕ) → 0 < k → min (min a k * min b k) k ≡ min (a * b) k
cap-mul k a b p = mul-cases k a b p (cases_lt 0 a) (cases_lt 0 b) (cases_lt k a) (cases_lt k b)

-- how many clauses there are in joined lists and in products
length-product : (ps qs : List Clause) → length (product ps qs) ≡ length ps * length qs
length-product [] qs = omega arith
length-product (p ∷ ps) qs =
    length-append (map (joined p) qs) (product ps qs)
    ∙ ap (λ (n : ℕ). n + length (product ps qs)) (length-map qs (joined p))
    ∙ ap (λ (n : ℕ). length qs + n) (length-product ps qs)
    ∙ one-more (length ps) (length qs)
  where
    one-more : (m n : ℕ) → n + m * n ≡ suc m * n
    one-more m n = omega arith

-- a step of a loop that multiplies
module _ {A : Type 0} (f : A → List Clause) where
  pub product-step : (xs : List A) (i : ℕ) (x : A) → i < length xs → x ≡ get_or xs i x
      → min (capped (length (products (map f (take i xs)))) * capped (length (f x))) (2 ^ 64 - 1) ≡ capped (length (products (map f (take (i + 1) xs))))
  product-step xs i x within here =
      cap-mul (2 ^ 64 - 1) (length (products (map f (take i xs)))) (length (f x)) (omega arith)
      ∙ ap capped (sym (length-product (products (map f (take i xs))) (f x)))
      ∙ ap (λ (cs : List Clause). capped (length cs)) (sym (fold_push product (never ∷ []) (map f (take i xs)) (f x)))
      ∙ ap (λ (ls : List (List Clause)). capped (length (products ls))) (sym (map-append f (take i xs) (x ∷ [])))
      ∙ ap (λ (ys : List A). capped (length (products (map f ys)))) (ap (λ (y : A). take i xs ++ y ∷ []) here ∙ sym (take_at_read xs i x within).1)

-- the clauses of a query
asked-length : (types : List Fact) (condition : Sides) → length (map (λ t. alone (positive t)) types ++ condition.pos) ≡ length types + length condition.pos
asked-length types condition =
    length-append (map (λ t. alone (positive t)) types) condition.pos
    ∙ ap (λ (n : ℕ). n + length condition.pos) (length-map types (λ t. alone (positive t)))

pub plain-length : (types : List Fact) (condition : Sides) → length (prefixed_clauses Plain types condition) ≡ length types + length condition.pos
plain-length types condition = asked-length types condition

pub only-length : (types : List Fact) (condition : Sides) → length (prefixed_clauses Only types condition) ≡ length types + length condition.pos
only-length types condition = asked-length types condition

pub not-length : (types : List Fact) (condition : Sides) → length (prefixed_clauses Not types condition) ≡ length condition.neg
not-length types condition = length-product (record { literals = map negative types } ∷ []) condition.neg ∙ once (length condition.neg)
  where
    once : (n : ℕ) → 1 * n ≡ n
    once n = omega arith

pub ruleset query_lengths = (plain-length, only-length, not-length)
