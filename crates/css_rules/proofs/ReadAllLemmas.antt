-- Parts that are read together, and what they are refused for.
use Rattle.std.proofs.Common.{◌≡◌, ◌≢◌, List, [], ◌∷◌, ◌++◌, map, flat_map, Option, Some, None, refl, sym, ◌∙◌, ap, subst, option_map}
use Rattle.std.specs.List.{AllByRecursion}
use Rattle.css_rules.specs.ReadAll.{joined, read_all}

-- What two lists are read as that are read as this one together.
pub record AreBoth {A : Type 0} (o p : Option (List A)) (xs : List A) : Type 0 where
  pub front : List A
  pub back : List A
  pub first : o ≡ Some front
  pub second : p ≡ Some back
  pub whole : xs ≡ front ++ back

pub joined-some : {A : Type 0} (o p : Option (List A)) (xs : List A) → joined o p ≡ Some xs → AreBoth o p xs
joined-some None p xs e = absurd (cc e)
joined-some (Some a) None xs e = absurd (cc e)
joined-some (Some a) (Some b) xs e = record { front = a; back = b; first = refl; second = refl; whole = cc e }

-- What holds of nothing, of two lists together and of what each part is read as holds of what all are read as.
pub read_all-holds : {X A : Type 0} (P : List A → Type 0) (R : X → Type 0) (f : X → Option (List A)) → P [] → ((xs ys : List A) → P xs → P ys → P (xs ++ ys))
    → ((x : X) (ys : List A) → R x → f x ≡ Some ys → P ys) → (xs : List X) → AllByRecursion R xs → (ys : List A) → read_all f xs ≡ Some ys → P ys
read_all-holds P R f nothing both each [] all ys e = let none : ys ≡ [] = cc e in subst P (sym none) nothing
read_all-holds P R f nothing both each (x ∷ xs) all ys e =
    let parts = joined-some (f x) (read_all f xs) ys e in
    subst P (sym parts.whole)
    (both parts.front parts.back (each x parts.front all.0 parts.first) (read_all-holds P R f nothing both each xs all.1 parts.back parts.second))

pub mapped-joined : {A B : Type 0} (h : List A → List B) → ((xs ys : List A) → h (xs ++ ys) ≡ h xs ++ h ys) → (o p : Option (List A)) → option_map h (joined o p) ≡ joined (option_map h o) (option_map h p)
mapped-joined h both None p = refl
mapped-joined h both (Some xs) None = refl
mapped-joined h both (Some xs) (Some ys) = ap Some (both xs ys)

-- What is made of all that is read is read, where it is made part by part.
pub mapped-all : {X Y A B : Type 0} (h : List A → List B) (f : X → Option (List A)) (g : Y → Option (List B)) (m : X → Y) → h [] ≡ [] → ((xs ys : List A) → h (xs ++ ys) ≡ h xs ++ h ys)
    → ((x : X) → option_map h (f x) ≡ g (m x)) → (xs : List X) → option_map h (read_all f xs) ≡ read_all g (map m xs)
mapped-all h f g m nothing both each [] = ap Some nothing
mapped-all h f g m nothing both each (x ∷ xs) =
    mapped-joined h both (f x) (read_all f xs)
    ∙ ap (λ o. joined o (option_map h (read_all f xs))) (each x)
    ∙ ap (joined (g (m x))) (mapped-all h f g m nothing both each xs)

-- Refusals.

pub left-none : {X : Type 0} (xs ys : List X) → xs ++ ys ≡ [] → xs ≡ []
left-none [] ys e = refl
left-none (x ∷ xs) ys e = absurd (cc e)

pub right-none : {X : Type 0} (xs ys : List X) → xs ++ ys ≡ [] → ys ≡ []
right-none [] ys e = e
right-none (x ∷ xs) ys e = absurd (cc e)

-- There is a reading exactly where there is no refusal.
abbrev pub Told : {A R : Type 0} → Option A → List R → Type 0
Told None rs = rs ≢ []
Told (Some x) rs = rs ≡ []

pub told-joined : {A R : Type 0} (o p : Option (List A)) (rs ss : List R) → Told o rs → Told p ss → Told (joined o p) (rs ++ ss)
told-joined None p rs ss h k = λ e. h (left-none rs ss e)
told-joined (Some xs) None rs ss h k = λ e. k (right-none rs ss e)
told-joined (Some xs) (Some ys) rs ss h k = ap (λ r. r ++ ss) h ∙ k

pub told-all : {X A R : Type 0} (f : X → Option (List A)) (g : X → List R) → ((x : X) → Told (f x) (g x)) → (xs : List X) → Told (read_all f xs) (flat_map g xs)
told-all f g each [] = refl
told-all f g each (x ∷ xs) = told-joined (f x) (read_all f xs) (g x) (flat_map g xs) (each x) (told-all f g each xs)

pub told-mapped : {A B R : Type 0} (h : A → B) (o : Option A) (rs : List R) → Told o rs → Told (option_map h o) rs
told-mapped h None rs told = told
told-mapped h (Some x) rs told = told

pub told-read : {A R : Type 0} (o : Option A) (x : A) (rs : List R) → Told o rs → o ≡ Some x → rs ≡ []
told-read o x rs told e = subst (λ p. Told p rs) e told

pub told-refused : {A R : Type 0} (o : Option A) (rs : List R) → Told o rs → o ≡ None → rs ≢ []
told-refused o rs told e = subst (λ p. Told p rs) e told
