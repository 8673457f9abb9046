-- Places of paths, as more paths are known.
use Rattle.std.proofs.Common.{◌≡◌, ℕ, zero, suc, ◌+◌, ◌<◌, List, [], ◌∷◌, ◌++◌, map, length, take, get_or, append_assoc, Option, Some, None, slice_get, subst, sym, ap, ◌∙◌}
use Rattle.std.specs.List.{AllZip}
use Rattle.work_pool.proofs.Zips.{zip-step}
use Rattle.import_graph.specs.Places.{ArePlaced, IsPlaced, Places}
use Rattle.import_graph.specs.Waves.{new_among}
use Rattle.import_graph.proofs.ReadingOn.{map-append}

-- a path keeps its place
kept : (known more : List (List ℕ)) (place : ℕ) (path : List ℕ) → slice_get known place ≡ Some path → slice_get (known ++ more) place ≡ Some path
kept [] more place path is = absurd (cc is)
kept (x ∷ xs) more zero path is = is
kept (x ∷ xs) more (suc place) path is = kept xs more place path is

zip-kept : {A B : Type 0} (R S : A → B → Type 0) → ((x : A) (y : B) → R x y → S x y) → (xs : List A) (ys : List B) → AllZip R xs ys → AllZip S xs ys
zip-kept R S each [] [] all = tt
zip-kept R S each [] (y ∷ ys) all = absurd all
zip-kept R S each (x ∷ xs) [] all = absurd all
zip-kept R S each (x ∷ xs) (y ∷ ys) all = (each x y all.0, zip-kept R S each xs ys all.1)

zip-append : {A B : Type 0} (R : A → B → Type 0) (xs xs' : List A) (ys ys' : List B) → AllZip R xs ys → AllZip R xs' ys' → AllZip R (xs ++ xs') (ys ++ ys')
zip-append R [] xs' [] ys' first second = second
zip-append R [] xs' (y ∷ ys) ys' first second = absurd first
zip-append R (x ∷ xs) xs' [] ys' first second = absurd first
zip-append R (x ∷ xs) xs' (y ∷ ys) ys' first second = (first.0, zip-append R xs xs' ys ys' first.1 second)

placed-kept : (known more : List (List ℕ)) (paths : List (List ℕ)) (places : List ℕ) → ArePlaced known paths places → ArePlaced (known ++ more) paths places
placed-kept known more paths places all = zip-kept (λ path place. slice_get known place ≡ Some path) (λ path place. slice_get (known ++ more) place ≡ Some path) (λ path place is. kept known more place path is) paths places all

is-placed-kept : (known more : List (List ℕ)) (paths : Option (List (List ℕ))) (places : Option (List ℕ)) → IsPlaced known paths places → IsPlaced (known ++ more) paths places
is-placed-kept known more None None h = tt
is-placed-kept known more None (Some places) h = absurd h
is-placed-kept known more (Some paths) None h = absurd h
is-placed-kept known more (Some paths) (Some places) h = placed-kept known more paths places h

all-placed-kept : (known now more : List (List ℕ)) (lists : List (Option (List (List ℕ)))) (places : List (Option (List ℕ))) → now ≡ known ++ more → AllZip (IsPlaced known) lists places → AllZip (IsPlaced now) lists places
all-placed-kept known now more lists places learnt all =
    subst (λ (k : List (List ℕ)). AllZip (IsPlaced k) lists places) (sym learnt) (zip-kept (IsPlaced known) (IsPlaced (known ++ more)) (is-placed-kept known more) lists places all)

-- the place of one more path
pub placed-more : (known now paths : List (List ℕ)) (places now_places : List ℕ) (i place : ℕ) (path : List ℕ) → i < length paths → path ≡ get_or paths i path → ArePlaced known (take i paths) places → now ≡ known ++ new_among known (path ∷ []) → slice_get now place ≡ Some path → now_places ≡ places ++ place ∷ []
    → ArePlaced now (take (i + 1) paths) now_places
placed-more known now paths places now_places i place path within is so_far learnt here adds =
    subst (ArePlaced now (take (i + 1) paths)) (sym adds)
    (zip-step (λ p a. slice_get now a ≡ Some p) paths places i path place within is
    (subst (λ (k : List (List ℕ)). ArePlaced k (take i paths) places) (sym learnt) (placed-kept known (new_among known (path ∷ [])) (take i paths) places so_far)) here)

-- the places of one more list
pub places-more : (known now : List (List ℕ)) (lists : List (Option (List (List ℕ)))) (before targets now_targets : List (Option (List ℕ))) (i : ℕ) (list : Option (List (List ℕ))) (places : Option (List ℕ)) (more : List (List ℕ)) → i < length lists → list ≡ get_or lists i list
    → Places known (take i lists) before targets → now ≡ known ++ more → IsPlaced now list places → now_targets ≡ targets ++ places ∷ [] → Places now (take (i + 1) lists) before now_targets
places-more known now lists before targets now_targets i list places more within is so_far learnt here adds = record {
  more = so_far.more ++ places ∷ [];
  added = adds ∙ ap (λ (l : List (Option (List ℕ))). l ++ places ∷ []) so_far.added ∙ append_assoc before so_far.more (places ∷ []);
  placed = zip-step (IsPlaced now) lists so_far.more i list places within is (all-placed-kept known now more (take i lists) so_far.more learnt so_far.placed) here;
}

-- the places of one more wave
pub targets-more : {A : Type 0} (names : A → Option (List (List ℕ))) (known now : List (List ℕ)) (files more now_files : List A) (targets now_targets : List (Option (List ℕ))) (new : List (List ℕ)) → AllZip (IsPlaced known) (map names files) targets → now ≡ known ++ new → now_files ≡ files ++ more
    → Places now (map names more) targets now_targets → AllZip (IsPlaced now) (map names now_files) now_targets
targets-more {A} names known now files more now_files targets now_targets new so_far learnt adds places =
    subst (λ (l : List A). AllZip (IsPlaced now) (map names l) now_targets) (sym adds)
    (subst (λ (l : List (Option (List (List ℕ)))). AllZip (IsPlaced now) l now_targets) (sym (map-append names files more))
    (subst (AllZip (IsPlaced now) (map names files ++ map names more)) (sym places.added)
    (zip-append (IsPlaced now) (map names files) (map names more) targets places.more (all-placed-kept known now new (map names files) targets learnt so_far) places.placed)))
