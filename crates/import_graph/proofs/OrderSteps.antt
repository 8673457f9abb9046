-- The numbering of files with a stack, of which the top is met next.
use Rattle.std.proofs.Common.{◌≡◌, ◌≢◌, ℕ, zero, suc, ◌+◌, ◌<◌, ◌≤◌, Bool, true, false, ◌||◌, List, [], ◌∷◌, ◌++◌, length, reverse, set, replicate, get_or, slice_index_or, Option, Some, None, subst, sym, ap, ◌∙◌, refl, arith, nat_eq, if◌then◌else◌}
use Rattle.std.specs.Option.{option_map_or}
use Rattle.std.specs.List.{list_any}
use Rattle.std.proofs.lemmas.List.{reverse-append, reverse-reverse, length-set, get_or-set_same, get_or-set_other, get_or-replicate, length-replicate}
use Rattle.std.proofs.lemmas.List.Folds.{list_any-append}
use Rattle.std.proofs.lemmas.Bool.Decides.{nat_tests}
use Rattle.import_graph.specs.Order.{targets_at}
use Rattle.import_graph.proofs.Numbers.{Numbers}
use Rattle.import_graph.proofs.Numbers.Numbers.{again, missing, first}

-- how many targets the files have that have no number yet
abbrev pub left : List Bool → List (Option (List ℕ)) → ℕ
left [] targets = 0
left (flag ∷ flags) [] = 0
left (flag ∷ flags) (named ∷ targets) = (if flag then 0 else option_map_or length named 0) + left flags targets

-- the flags tell which files have a number
abbrev pub Tell : List Bool → List ℕ → Type 0
Tell flags numbered = (file : ℕ) → file < length flags → slice_index_or flags file false ≡ list_any (nat_eq file) numbered

-- how many flags are not set
abbrev pub unset : List Bool → ℕ
unset [] = 0
unset (flag ∷ flags) = (if flag then 0 else 1) + unset flags

same-if : (j i : ℕ) → nat_eq j i ≡ true → j ≡ i
same-if j i h = grind (arith, nat_tests)

other-if : (j i : ℕ) → nat_eq j i ≡ false → j ≢ i
other-if j i h e = grind (arith, nat_tests)

module _ (targets : List (Option (List ℕ))) where
  abbrev Goes : List ℕ → List ℕ → List ℕ → Type 0
  Goes numbered todo all = Numbers nat_eq (targets_at targets) numbered todo all

  top : (rest : List ℕ) (file : ℕ) → file ∷ reverse rest ≡ reverse (rest ++ file ∷ [])
  top rest file = sym (reverse-append rest (file ∷ []))

  popped : (P : List ℕ → Type 0) (numbered todo rest : List ℕ) (file : ℕ) → todo ≡ rest ++ file ∷ [] → ((all : List ℕ) → Goes numbered (reverse todo) all → P all) → (all : List ℕ) → Goes numbered (file ∷ reverse rest) all → P all
  popped P numbered todo rest file is so_far all goes = so_far all (subst (λ (l : List ℕ). Goes numbered l all) (top rest file ∙ ap reverse (sym is)) goes)

  -- the file on top has a number
  pub step-again : (P : List ℕ → Type 0) (numbered todo rest : List ℕ) (file : ℕ) → todo ≡ rest ++ file ∷ [] → list_any (nat_eq file) numbered ≡ true → ((all : List ℕ) → Goes numbered (reverse todo) all → P all) → (all : List ℕ) → Goes numbered (reverse rest) all → P all
  step-again P numbered todo rest file is has so_far all goes = popped P numbered todo rest file is so_far all (again has goes)

  -- it is missing
  pub step-missing : (P : List ℕ → Type 0) (numbered todo rest : List ℕ) (file : ℕ) → todo ≡ rest ++ file ∷ [] → targets_at targets file ≡ None → ((all : List ℕ) → Goes numbered (reverse todo) all → P all) → (all : List ℕ) → Goes numbered (reverse rest) all → P all
  step-missing P numbered todo rest file is none so_far all goes = popped P numbered todo rest file is so_far all (missing none goes)

  -- it gets a number
  pub step-first : (P : List ℕ → Type 0) (numbered todo rest now numbered_now named : List ℕ) (file : ℕ) → todo ≡ rest ++ file ∷ [] → list_any (nat_eq file) numbered ≡ false → targets_at targets file ≡ Some named → now ≡ rest ++ reverse named → numbered_now ≡ numbered ++ file ∷ []
      → ((all : List ℕ) → Goes numbered (reverse todo) all → P all) → (all : List ℕ) → Goes numbered_now (reverse now) all → P all
  step-first P numbered todo rest now numbered_now named file is free some pushes adds so_far all goes =
      let turned : reverse now ≡ named ++ reverse rest = ap reverse pushes ∙ reverse-append rest (reverse named) ∙ ap (λ (l : List ℕ). l ++ reverse rest) (reverse-reverse named) in
      popped P numbered todo rest file is so_far all (first free some (subst (λ (l : List ℕ). Goes l (named ++ reverse rest) all) adds (subst (λ (l : List ℕ). Goes numbered_now l all) turned goes)))

  -- a place beyond the list is that of a missing file
  pub beyond : (file : ℕ) → length targets ≤ file → targets_at targets file ≡ None
  beyond file past = past-at targets file past
    where
      past-at : (xs : List (Option (List ℕ))) (at : ℕ) → length xs ≤ at → targets_at xs at ≡ None
      past-at [] at past = refl
      past-at (x ∷ xs) zero past = absurd (omega arith)
      past-at (x ∷ xs) (suc at) past = past-at xs at (omega arith)

or-true : (b : Bool) → (b || (true || false)) ≡ true
or-true true = refl
or-true false = refl

or-false : (b : Bool) → (b || (false || false)) ≡ b
or-false true = refl
or-false false = refl

-- the flags tell it after one more is set
pub tell-more : (flags : List Bool) (numbered : List ℕ) (file : ℕ) → file < length flags → Tell flags numbered → Tell (set flags file true) (numbered ++ file ∷ [])
tell-more flags numbered file within tells = λ other inside. by other (nat_eq other file) refl (tells other (subst (λ (n : ℕ). other < n) (length-set flags file true) inside))
  where
    by : (other : ℕ) (b : Bool) → nat_eq other file ≡ b → slice_index_or flags other false ≡ list_any (nat_eq other) numbered → slice_index_or (set flags file true) other false ≡ list_any (nat_eq other) (numbered ++ file ∷ [])
    by other true same before =
        ap (λ (n : ℕ). get_or (set flags file true) n false) (same-if other file same)
        ∙ get_or-set_same flags file true false within
        ∙ sym (list_any-append (nat_eq other) numbered (file ∷ []) ∙ ap (λ (c : Bool). list_any (nat_eq other) numbered || (c || false)) same ∙ or-true (list_any (nat_eq other) numbered))
    by other false same before =
        get_or-set_other flags file other true false (other-if other file same)
        ∙ before
        ∙ sym (list_any-append (nat_eq other) numbered (file ∷ []) ∙ ap (λ (c : Bool). list_any (nat_eq other) numbered || (c || false)) same ∙ or-false (list_any (nat_eq other) numbered))

pub tell-none : (flags : List Bool) (n : ℕ) → flags ≡ replicate n false → Tell flags []
tell-none flags n is = λ file within. ap (λ (l : List Bool). get_or l file false) is ∙ get_or-replicate n file false false (omega (arith, ap length is, length-replicate n false))

-- one flag less is not set
pub unset-less : (flags : List Bool) (file : ℕ) → file < length flags → slice_index_or flags file false ≡ false → unset (set flags file true) + 1 ≡ unset flags
unset-less [] file within free = absurd (omega arith)
unset-less (flag ∷ flags) zero within free = rw free (omega arith)
unset-less (flag ∷ flags) (suc file) within free = omega (arith, unset-less flags file (omega arith) free)

pub unset-all : (n : ℕ) → unset (replicate n false) ≡ n
unset-all zero = refl
unset-all (suc n) = omega (arith, unset-all n)

-- the targets of the file are no longer left
pub left-less : (flags : List Bool) (targets : List (Option (List ℕ))) (file : ℕ) (named : List ℕ) → file < length flags → length flags ≡ length targets → slice_index_or flags file false ≡ false → targets_at targets file ≡ Some named
    → left (set flags file true) targets + length named ≡ left flags targets
left-less [] targets file named within same free some = absurd (omega arith)
left-less (flag ∷ flags) [] file named within same free some = absurd (omega arith)
left-less (flag ∷ flags) (here ∷ targets) zero named within same free some = rw (free, some) (omega arith)
left-less (flag ∷ flags) (here ∷ targets) (suc file) named within same free some = omega (arith, left-less flags targets file named (omega arith) (omega arith) free some)

-- what is read at a place, with any default
pub read-at : {A : Type 0} (xs : List A) (i : ℕ) (x d : A) → i < length xs → x ≡ get_or xs i x → get_or xs i d ≡ x
read-at [] i x d within is = absurd (omega arith)
read-at (y ∷ ys) zero x d within is = sym is
read-at (y ∷ ys) (suc i) x d within is = read-at ys i x d (omega arith) is

-- the flag at a place tells whether the file has a number
pub numbered-by : (flags : List Bool) (numbered : List ℕ) (file : ℕ) (flag : Bool) → file < length flags → Tell flags numbered → flag ≡ get_or flags file flag → list_any (nat_eq file) numbered ≡ flag
numbered-by flags numbered file flag within tells is = sym (tells file within) ∙ read-at flags file flag false within is
