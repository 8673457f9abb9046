-- The order of places is that of the paths at them.
use Rattle.std.proofs.Common.{◌≡◌, ℕ, zero, suc, ◌<◌, ◌≤◌, Bool, true, false, ◌||◌, List, [], ◌∷◌, ◌++◌, map, length, Option, Some, None, slice_get, nat_eq, subst, sym, ap, ◌∙◌, refl, arith, length-append, if◌then◌else◌}
use Rattle.std.specs.List.{AllZip, AllByRecursion, IsDistinct, list_any}
use Rattle.std.specs.Option.{option_map, option_map_or}
use Rattle.std.specs.Str.{bytes_eq}
use Rattle.std.specs.Cmp.Lexicographic.{nat_list_eq_equiv}
use Rattle.std.proofs.lemmas.Bool.Decides.{nat_tests}
use Rattle.std.proofs.lemmas.Option.{slice_get_within}
use Rattle.import_graph.specs.Files.{Naming, Agrees, names_of, paths_of}
use Rattle.import_graph.specs.Order.{next_new, numbered_from, targets_at}
use Rattle.import_graph.specs.Places.{ArePlaced, IsPlaced, path_at, path_order}
use Rattle.import_graph.specs.Waves.{Targets, wave_of, through, IsAll}
use Rattle.import_graph.specs.declared.found.ReadFile.{ReadFile}
use Rattle.import_graph.proofs.Distinct.{each-once}
use Rattle.import_graph.proofs.ReadingOn.{map-append}
use Rattle.import_graph.proofs.WaveSteps.{count-paths}

all-append : {A : Type 0} (P : A → Type 0) (xs ys : List A) → AllByRecursion P xs → AllByRecursion P ys → AllByRecursion P (xs ++ ys)
all-append P [] ys first second = second
all-append P (x ∷ xs) ys first second = (first.0, all-append P xs ys first.1 second)

-- files are numbered alike under other names, where equal names are those of equal files
module _ {A B : Type 0} (eq : A → A → Bool) (eq' : B → B → Bool) (name : A → B) (targets : A → Option (List A)) (targets' : B → Option (List B)) (Good : A → Type 0) (same : (x y : A) → Good x → Good y → eq' (name x) (name y) ≡ eq x y)
    (told : (x : A) → Good x → targets' (name x) ≡ option_map (map name) (targets x)) (closed : (x : A) (named : List A) → Good x → targets x ≡ Some named → AllByRecursion Good named) where
  any-same : (x : A) (xs : List A) → Good x → AllByRecursion Good xs → list_any (eq' (name x)) (map name xs) ≡ list_any (eq x) xs
  any-same x [] here good = refl
  any-same x (y ∷ ys) here good = λ i. same x y here good.0 i || any-same x ys here good.1 i

  abbrev renamed : Option (A × List A) → Option (B × List B)
  renamed next = option_map (λ p. (name p.0, map name p.1)) next

  next-renamed : (numbered todo : List A) → AllByRecursion Good numbered → AllByRecursion Good todo → next_new eq' targets' (map name numbered) (map name todo) ≡ renamed (next_new eq targets numbered todo)
  next-renamed numbered [] good ahead = refl
  next-renamed numbered (file ∷ todo) good ahead =
      by (list_any (eq file) numbered) (targets file) (any-same file numbered ahead.0 good) (told file ahead.0) (next-renamed numbered todo good ahead.1)
    where
      by : (b : Bool) (found : Option (List A)) → list_any (eq' (name file)) (map name numbered) ≡ b → targets' (name file) ≡ option_map (map name) found
          → next_new eq' targets' (map name numbered) (map name todo) ≡ option_map (λ p. (name p.0, map name p.1)) (next_new eq targets numbered todo)
          → (if list_any (eq' (name file)) (map name numbered) then next_new eq' targets' (map name numbered) (map name todo) else option_map_or (λ named. Some (name file, named ++ map name todo)) (targets' (name file)) (next_new eq' targets' (map name numbered) (map name todo)))
          ≡ option_map (λ p. (name p.0, map name p.1)) (if b then next_new eq targets numbered todo else option_map_or (λ named. Some (file, named ++ todo)) found (next_new eq targets numbered todo))
      by true found has is later =
          ap (λ (b : Bool). if b then next_new eq' targets' (map name numbered) (map name todo) else option_map_or (λ named. Some (name file, named ++ map name todo)) (targets' (name file)) (next_new eq' targets' (map name numbered) (map name todo))) has ∙ later
      by false None has is later =
          ap (λ (b : Bool). if b then next_new eq' targets' (map name numbered) (map name todo) else option_map_or (λ named. Some (name file, named ++ map name todo)) (targets' (name file)) (next_new eq' targets' (map name numbered) (map name todo))) has
          ∙ ap (λ (f : Option (List B)). option_map_or (λ named. Some (name file, named ++ map name todo)) f (next_new eq' targets' (map name numbered) (map name todo))) is
          ∙ later
      by false (Some named) has is later =
          ap (λ (b : Bool). if b then next_new eq' targets' (map name numbered) (map name todo) else option_map_or (λ named. Some (name file, named ++ map name todo)) (targets' (name file)) (next_new eq' targets' (map name numbered) (map name todo))) has
          ∙ ap (λ (f : Option (List B)). option_map_or (λ named. Some (name file, named ++ map name todo)) f (next_new eq' targets' (map name numbered) (map name todo))) is
          ∙ ap (λ (l : List B). Some (name file, l)) (sym (map-append name named todo))

  next-good : (numbered todo : List A) (p : A × List A) → AllByRecursion Good todo → next_new eq targets numbered todo ≡ Some p → Good p.0 × AllByRecursion Good p.1
  next-good numbered [] p good is = absurd (cc is)
  next-good numbered (file ∷ todo) p good is = by (list_any (eq file) numbered) (targets file) refl is (next-good numbered todo p good.1)
    where
      by : (b : Bool) (found : Option (List A)) → targets file ≡ found → (if b then next_new eq targets numbered todo else option_map_or (λ named. Some (file, named ++ todo)) found (next_new eq targets numbered todo)) ≡ Some p
          → (next_new eq targets numbered todo ≡ Some p → Good p.0 × AllByRecursion Good p.1) → Good p.0 × AllByRecursion Good p.1
      by true found here is later = later is
      by false None here is later = later is
      by false (Some named) here is later =
          let e : (file, named ++ todo) ≡ p = cc is in subst (λ (q : A × List A). Good q.0 × AllByRecursion Good q.1) e (good.0, all-append Good named todo (closed file named good.0 here) good.1)

  abbrev From : Option (B × List B) → List B → ℕ → List B
  From next numbered more = elim next [ None ↦ numbered | Some p ↦ numbered_from eq' targets' more (numbered ++ p.0 ∷ []) p.1 ]

  pub numbered-renamed : (more : ℕ) (numbered todo : List A) → AllByRecursion Good numbered → AllByRecursion Good todo → map name (numbered_from eq targets more numbered todo) ≡ numbered_from eq' targets' more (map name numbered) (map name todo)
  numbered-renamed zero numbered todo good ahead = refl
  numbered-renamed (suc more) numbered todo good ahead = by (next_new eq targets numbered todo) refl (next-renamed numbered todo good ahead) (numbered-renamed more)
    where
      by : (next : Option (A × List A)) → next_new eq targets numbered todo ≡ next → next_new eq' targets' (map name numbered) (map name todo) ≡ renamed next
          → ((now rest : List A) → AllByRecursion Good now → AllByRecursion Good rest → map name (numbered_from eq targets more now rest) ≡ numbered_from eq' targets' more (map name now) (map name rest))
          → map name (elim next [ None ↦ numbered | Some p ↦ numbered_from eq targets more (numbered ++ p.0 ∷ []) p.1 ]) ≡ From (next_new eq' targets' (map name numbered) (map name todo)) (map name numbered) more
      by None here is later = ap (λ n. From n (map name numbered) more) (sym is)
      by (Some p) here is later =
          let next = next-good numbered todo p ahead here in
          later (numbered ++ p.0 ∷ []) p.1 (all-append Good numbered (p.0 ∷ []) good (next.0, tt)) next.1
          ∙ ap (λ (l : List B). numbered_from eq' targets' more l (map name p.1)) (map-append name numbered (p.0 ∷ []))
          ∙ ap (λ n. From n (map name numbered) more) (sym is)

eq-same : (x : ℕ) → nat_eq x x ≡ true
eq-same x = grind (arith, nat_tests)

eq-zero-suc : (x : ℕ) → nat_eq zero (suc x) ≡ false
eq-zero-suc x = grind (arith, nat_tests)

eq-suc-zero : (x : ℕ) → nat_eq (suc x) zero ≡ false
eq-suc-zero x = grind (arith, nat_tests)

eq-suc-true : (x y : ℕ) → nat_eq x y ≡ true → nat_eq (suc x) (suc y) ≡ true
eq-suc-true x y h = grind (arith, nat_tests)

eq-suc-false : (x y : ℕ) → nat_eq x y ≡ false → nat_eq (suc x) (suc y) ≡ false
eq-suc-false x y h = grind (arith, nat_tests)

eq-suc : (x y : ℕ) → nat_eq (suc x) (suc y) ≡ nat_eq x y
eq-suc x y = by (nat_eq x y) refl
  where
    by : (b : Bool) → nat_eq x y ≡ b → nat_eq (suc x) (suc y) ≡ nat_eq x y
    by true is = eq-suc-true x y is ∙ sym is
    by false is = eq-suc-false x y is ∙ sym is

all-at : (P : List ℕ → Type 0) (xs : List (List ℕ)) (place : ℕ) → place < length xs → AllByRecursion P xs → P (path_at xs place)
all-at P [] place within all = absurd (omega arith)
all-at P (x ∷ xs) zero within all = all.0
all-at P (x ∷ xs) (suc place) within all = all-at P xs place (omega arith) all.1

-- the paths at two places are equal where the places are
places-same : (known : List (List ℕ)) → IsDistinct bytes_eq known → (x y : ℕ) → x < length known → y < length known → bytes_eq (path_at known x) (path_at known y) ≡ nat_eq x y
unfolding IsDistinct
places-same [] distinct x y x_in y_in = absurd (omega arith)
places-same (p ∷ ps) distinct zero zero x_in y_in = nat_list_eq_equiv.refl p ∙ sym (eq-same zero)
places-same (p ∷ ps) distinct zero (suc y) x_in y_in = all-at (λ other. bytes_eq p other ≡ false) ps y (omega arith) distinct.0 ∙ sym (eq-zero-suc y)
places-same (p ∷ ps) distinct (suc x) zero x_in y_in = nat_list_eq_equiv.symm (path_at ps x) p ∙ all-at (λ other. bytes_eq p other ≡ false) ps x (omega arith) distinct.0 ∙ sym (eq-suc-zero x)
places-same (p ∷ ps) distinct (suc x) (suc y) x_in y_in = places-same ps distinct.1 x y (omega arith) (omega arith) ∙ sym (eq-suc x y)

stands-at : (known : List (List ℕ)) (place : ℕ) (path : List ℕ) → slice_get known place ≡ Some path → path ≡ path_at known place
stands-at [] place path is = absurd (cc is)
stands-at (x ∷ xs) zero path is = cc
stands-at (x ∷ xs) (suc place) path is = stands-at xs place path is

paths-at : (known : List (List ℕ)) (paths : List (List ℕ)) (places : List ℕ) → ArePlaced known paths places → paths ≡ map (path_at known) places
paths-at known [] [] all = refl
paths-at known [] (y ∷ ys) all = absurd all
paths-at known (x ∷ xs) [] all = absurd all
paths-at known (x ∷ xs) (y ∷ ys) all = λ i. stands-at known y x all.0 i ∷ paths-at known xs ys all.1 i

all-within : (known : List (List ℕ)) (paths : List (List ℕ)) (places : List ℕ) → ArePlaced known paths places → AllByRecursion (λ place. place < length known) places
all-within known [] [] all = tt
all-within known [] (y ∷ ys) all = absurd all
all-within known (x ∷ xs) [] all = absurd all
all-within known (x ∷ xs) (y ∷ ys) all = (slice_get_within known y x all.0, all-within known xs ys all.1)

targets-placed : (known : List (List ℕ)) (paths : Option (List (List ℕ))) (places : Option (List ℕ)) → IsPlaced known paths places → paths ≡ option_map (map (path_at known)) places
targets-placed known None None placed = refl
targets-placed known None (Some places) placed = absurd placed
targets-placed known (Some paths) None placed = absurd placed
targets-placed known (Some paths) (Some places) placed = ap Some (paths-at known paths places placed)

targets-within : (known : List (List ℕ)) (paths : Option (List (List ℕ))) (places : Option (List ℕ)) (named : List ℕ) → IsPlaced known paths places → places ≡ Some named → AllByRecursion (λ place. place < length known) named
targets-within known None None named placed is = absurd (cc is)
targets-within known None (Some places) named placed is = absurd placed
targets-within known (Some paths) None named placed is = absurd placed
targets-within known (Some paths) (Some places) named placed is = let same : places ≡ named = cc is in subst (AllByRecursion (λ place. place < length known)) same (all-within known paths places placed)

module _ (naming : Naming) (known : List (List ℕ)) where
  -- what is placed at each place is what the file there names
  placed-at : (files : List ReadFile) (places : List (Option (List ℕ))) (targets : Targets) (place : ℕ) → place < length files → Agrees naming targets files → AllZip (IsPlaced known) (map (names_of naming) files) places → IsPlaced known (targets (path_at (paths_of files) place)) (targets_at places place)
  placed-at [] places targets place within agrees zip = absurd (omega arith)
  placed-at (file ∷ files) [] targets place within agrees zip = absurd zip
  placed-at (file ∷ files) (here ∷ places) targets zero within agrees zip = subst (λ (paths : Option (List (List ℕ))). IsPlaced known paths here) (sym agrees.0) zip.0
  placed-at (file ∷ files) (here ∷ places) targets (suc place) within agrees zip = placed-at files places targets place (omega arith) agrees.1 zip.1

  count-places : (files : List ReadFile) (places : List (Option (List ℕ))) → AllZip (IsPlaced known) (map (names_of naming) files) places → length places ≡ length files
  count-places [] [] zip = refl
  count-places [] (here ∷ places) zip = absurd zip
  count-places (file ∷ files) [] zip = absurd zip
  count-places (file ∷ files) (here ∷ places) zip = ap suc (count-places files places zip.1)

pub begins : (targets : Targets) (entry : List ℕ) (number : ℕ) → (rest : List (List ℕ)) × (through (wave_of targets entry number) ≡ entry ∷ rest)
begins targets entry zero = ([], refl)
begins targets entry (suc number) =
    let before = begins targets entry number in
    (before.0 ++ (wave_of targets entry (suc number)).paths, ap (λ (l : List (List ℕ)). l ++ (wave_of targets entry (suc number)).paths) before.1)

module _ (naming : Naming) (targets : Targets) (entry : List ℕ) (files : List ReadFile) (places : List (Option (List ℕ))) (all : IsAll targets entry (paths_of files)) (agrees : Agrees naming targets files) (zip : AllZip (IsPlaced (paths_of files)) (map (names_of naming) files) places) where
  known : List (List ℕ)
  known = paths_of files

  distinct : IsDistinct bytes_eq (paths_of files)
  distinct = subst (IsDistinct bytes_eq) (sym all.all) (each-once targets entry all.number)

  is-placed : (place : ℕ) → place < length (paths_of files) → IsPlaced (paths_of files) (targets (path_at (paths_of files) place)) (targets_at places place)
  is-placed place within = placed-at naming (paths_of files) files places targets place (omega (arith, within, count-paths files)) agrees zip

  -- so many more numbers give the paths of the places
  order-at : (more : ℕ) → map (path_at (paths_of files)) (numbered_from nat_eq (targets_at places) more [] (0 ∷ [])) ≡ numbered_from bytes_eq targets more [] (entry ∷ [])
  order-at more =
      let first = begins targets entry all.number in
      let start : paths_of files ≡ entry ∷ first.0 = all.all ∙ first.1 in
      let inside : 0 < length (paths_of files) = omega (arith, ap length start, length-append (entry ∷ []) first.0) in
      numbered-renamed nat_eq bytes_eq (path_at (paths_of files)) (targets_at places) targets (λ place. place < length (paths_of files))
      (λ x y x_in y_in. places-same (paths_of files) distinct x y x_in y_in)
      (λ x x_in. targets-placed (paths_of files) (targets (path_at (paths_of files) x)) (targets_at places x) (is-placed x x_in))
      (λ x named x_in is. targets-within (paths_of files) (targets (path_at (paths_of files) x)) (targets_at places x) named (is-placed x x_in) is)
      more [] (0 ∷ []) tt (inside, tt)
      ∙ ap (λ (l : List (List ℕ)). numbered_from bytes_eq targets more [] (path_at l 0 ∷ [])) start

  -- the order of the places is that of the paths
  pub order-paths : (order : List ℕ) → ((more : ℕ) → length places ≤ more → numbered_from nat_eq (targets_at places) more [] (0 ∷ []) ≡ order) → map (path_at (paths_of files)) order ≡ path_order targets entry
  unfolding path_order
  order-paths order enough =
      ap (map (path_at (paths_of files))) (sym (enough 1024 (omega (arith, count-places naming (paths_of files) files places zip, count-paths files, all.few)))) ∙ order-at 1024
