-- Paths that are added to those that are known.
use Rattle.std.proofs.Common.{◌≡◌, ℕ, ◌+◌, ◌<◌, length, take, get_or, Bool, true, false, List, [], ◌∷◌, ◌++◌, append_assoc, append-nil, sym, ap, ◌∙◌, if◌then◌else◌, flat_map}
use Rattle.std.specs.List.{list_any}
use Rattle.std.specs.Str.{bytes_eq}
use Rattle.std.proofs.lemmas.Grind.{flat_map-append}
use Rattle.std.proofs.lemmas.List.{take_more}
use Rattle.import_graph.specs.Waves.{new_among}

-- two lots of paths are added as one
pub new-append : (known xs ys : List (List ℕ)) → new_among known (xs ++ ys) ≡ new_among known xs ++ new_among (known ++ new_among known xs) ys
new-append known [] ys = ap (λ (k : List (List ℕ)). new_among k ys) (sym (append-nil known))
new-append known (x ∷ xs) ys = by (list_any (bytes_eq x) known) (new-append known xs ys) (new-append (known ++ x ∷ []) xs ys)
  where
    by : (b : Bool) → new_among known (xs ++ ys) ≡ new_among known xs ++ new_among (known ++ new_among known xs) ys
        → new_among (known ++ x ∷ []) (xs ++ ys) ≡ new_among (known ++ x ∷ []) xs ++ new_among ((known ++ x ∷ []) ++ new_among (known ++ x ∷ []) xs) ys
        → (if b then new_among known (xs ++ ys) else x ∷ new_among (known ++ x ∷ []) (xs ++ ys))
        ≡ (if b then new_among known xs else x ∷ new_among (known ++ x ∷ []) xs) ++ new_among (known ++ (if b then new_among known xs else x ∷ new_among (known ++ x ∷ []) xs)) ys
    by true there free = there
    by false there free = ap (λ (l : List (List ℕ)). x ∷ l) (free ∙ ap (λ (k : List (List ℕ)). new_among (known ++ x ∷ []) xs ++ new_among k ys) (append_assoc known (x ∷ []) (new_among (known ++ x ∷ []) xs)))

new-on : (start known now xs ys : List (List ℕ)) → known ≡ start ++ new_among start xs → now ≡ known ++ new_among known ys → now ≡ start ++ new_among start (xs ++ ys)
new-on start known now xs ys so_far learnt =
    learnt
    ∙ ap (λ (k : List (List ℕ)). k ++ new_among k ys) so_far
    ∙ append_assoc start (new_among start xs) (new_among (start ++ new_among start xs) ys)
    ∙ ap (λ (l : List (List ℕ)). start ++ l) (sym (new-append start xs ys))

-- one more path
pub learnt-one : (start known now paths : List (List ℕ)) (i : ℕ) (path : List ℕ) → i < length paths → path ≡ get_or paths i path → known ≡ start ++ new_among start (take i paths) → now ≡ known ++ new_among known (path ∷ [])
    → now ≡ start ++ new_among start (take (i + 1) paths)
learnt-one start known now paths i path within is so_far learnt =
    new-on start known now (take i paths) (path ∷ []) so_far learnt
    ∙ ap (λ (p : List ℕ). start ++ new_among start (take i paths ++ p ∷ [])) is
    ∙ ap (λ (l : List (List ℕ)). start ++ new_among start l) (sym (take_more paths i path within))

-- the paths of one more list
pub learnt-more : {A : Type 0} (f : A → List (List ℕ)) (start known now : List (List ℕ)) (lists : List A) (i : ℕ) (list : A) → i < length lists → list ≡ get_or lists i list → known ≡ start ++ new_among start (flat_map f (take i lists)) → now ≡ known ++ new_among known (f list)
    → now ≡ start ++ new_among start (flat_map f (take (i + 1) lists))
learnt-more {A} f start known now lists i list within is so_far learnt =
    new-on start known now (flat_map f (take i lists)) (f list) so_far learnt
    ∙ ap (λ (l : List (List ℕ)). start ++ new_among start l) (ap (λ (l : List (List ℕ)). flat_map f (take i lists) ++ l) (sym (append-nil (f list))) ∙ sym (flat_map-append f (take i lists) (list ∷ [])))
    ∙ ap (λ (l : A). start ++ new_among start (flat_map f (take i lists ++ l ∷ []))) is
    ∙ ap (λ (l : List A). start ++ new_among start (flat_map f l)) (sym (take_more lists i list within))
