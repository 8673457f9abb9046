-- Tests that are joined, and lists of tests.
use Rattle.std.proofs.Common.{◌≡◌, List, [], ◌∷◌, Bool, true, false, not, ◌&&◌, ◌||◌, map, refl, ◌∙◌, ap, sym}
use Rattle.std.proofs.lemmas.Bool.{false≢true}
use Rattle.std.specs.List.{list_all, list_any}
use Rattle.media_clauses.specs.Holding.{signed}

pub and-true : (a : Bool) → (a && true) ≡ a
and-true true = refl
and-true false = refl

pub or-false : (a : Bool) → (a || false) ≡ a
or-false true = refl
or-false false = refl

pub or-true : (a : Bool) → (a || true) ≡ true
or-true true = refl
or-true false = refl

pub not-not : (a : Bool) → not (not a) ≡ a
not-not true = refl
not-not false = refl

pub not-and : (a b : Bool) → not (a && b) ≡ (not a || not b)
not-and true b = refl
not-and false b = refl

pub not-or : (a b : Bool) → not (a || b) ≡ (not a && not b)
not-or true b = refl
not-or false b = refl

pub or-assoc : (a b c : Bool) → ((a || b) || c) ≡ (a || (b || c))
or-assoc true b c = refl
or-assoc false b c = refl

pub and-assoc : (a b c : Bool) → ((a && b) && c) ≡ (a && (b && c))
and-assoc true b c = refl
and-assoc false b c = refl

-- `or` over `and`, from either side
pub or-and : (a b c : Bool) → ((a || b) && (a || c)) ≡ (a || (b && c))
or-and true b c = refl
or-and false b c = refl

pub and-or : (a b c : Bool) → ((a || c) && (b || c)) ≡ ((a && b) || c)
and-or true b c = refl
and-or false b true = or-true b
and-or false b false = refl

pub and-left : (a b : Bool) → (a && b) ≡ true → a ≡ true
and-left true b e = refl
and-left false b e = absurd (false≢true e)

pub and-right : (a b : Bool) → (a && b) ≡ true → b ≡ true
and-right true b e = e
and-right false b e = absurd (false≢true e)

-- the same two tests, joined
pub both : (a b c d : Bool) → a ≡ c → b ≡ d → (a && b) ≡ (c && d)
both a b c d p q = ap (λ (x : Bool). x && b) p ∙ ap (λ (x : Bool). c && x) q

pub either : (a b c d : Bool) → a ≡ c → b ≡ d → (a || b) ≡ (c || d)
either a b c d p q = ap (λ (x : Bool). x || b) p ∙ ap (λ (x : Bool). c || x) q

-- the opposite of a signed test
pub signed-not : (a b : Bool) → signed (not a) b ≡ not (signed a b)
signed-not true b = refl
signed-not false b = sym (not-not b)

-- tests of what is made of each
pub all-map : {X Y : Type 0} (p : X → Bool) (f : Y → X) (ys : List Y) → list_all p (map f ys) ≡ list_all (λ y. p (f y)) ys
all-map p f [] = refl
all-map p f (y ∷ ys) = ap (λ (b : Bool). p (f y) && b) (all-map p f ys)

pub any-map : {X Y : Type 0} (p : X → Bool) (f : Y → X) (ys : List Y) → list_any p (map f ys) ≡ list_any (λ y. p (f y)) ys
any-map p f [] = refl
any-map p f (y ∷ ys) = ap (λ (b : Bool). p (f y) || b) (any-map p f ys)

-- the same test of each
pub all-same : {X : Type 0} (p q : X → Bool) → ((x : X) → p x ≡ q x) → (xs : List X) → list_all p xs ≡ list_all q xs
all-same p q same [] = refl
all-same p q same (x ∷ xs) = both (p x) (list_all p xs) (q x) (list_all q xs) (same x) (all-same p q same xs)

pub any-same : {X : Type 0} (p q : X → Bool) → ((x : X) → p x ≡ q x) → (xs : List X) → list_any p xs ≡ list_any q xs
any-same p q same [] = refl
any-same p q same (x ∷ xs) = either (p x) (list_any p xs) (q x) (list_any q xs) (same x) (any-same p q same xs)

-- not all, and not any
pub any-not : {X : Type 0} (p : X → Bool) (xs : List X) → list_any (λ x. not (p x)) xs ≡ not (list_all p xs)
any-not p [] = refl
any-not p (x ∷ xs) = ap (λ (b : Bool). not (p x) || b) (any-not p xs) ∙ sym (not-and (p x) (list_all p xs))

pub all-not : {X : Type 0} (p : X → Bool) (xs : List X) → list_all (λ x. not (p x)) xs ≡ not (list_any p xs)
all-not p [] = refl
all-not p (x ∷ xs) = ap (λ (b : Bool). not (p x) && b) (all-not p xs) ∙ sym (not-or (p x) (list_any p xs))
