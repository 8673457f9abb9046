-- The numbering as a relation, one step at a time, and that it gives what the definition gives.
use Rattle.std.proofs.Common.{◌≡◌, ℕ, zero, suc, ◌+◌, ◌≤◌, Bool, true, false, List, [], ◌∷◌, ◌++◌, length, length-append, Option, Some, None, ap, ◌∙◌, refl, arith, if◌then◌else◌}
use Rattle.std.specs.List.{list_any}
use Rattle.std.specs.Option.{option_map_or}
use Rattle.import_graph.specs.Order.{next_new, numbered_from}

module _ {A : Type 0} (eq : A → A → Bool) (targets : A → Option (List A)) where
  -- from these numbered files and those still to be met, all numbered files
  pub data Numbers : List A → List A → List A → Type 0 where
    done : {numbered : List A} → Numbers numbered [] numbered
    again : {numbered todo all : List A} {file : A} → list_any (eq file) numbered ≡ true → Numbers numbered todo all → Numbers numbered (file ∷ todo) all
    missing : {numbered todo all : List A} {file : A} → targets file ≡ None → Numbers numbered todo all → Numbers numbered (file ∷ todo) all
    first : {numbered todo all named : List A} {file : A} → list_any (eq file) numbered ≡ false → targets file ≡ Some named → Numbers (numbered ++ file ∷ []) (named ++ todo) all → Numbers numbered (file ∷ todo) all

  abbrev From : Option (A × List A) → List A → ℕ → List A
  From next numbered more = elim next [ None ↦ numbered | Some p ↦ numbered_from eq targets more (numbered ++ p.0 ∷ []) p.1 ]

  -- numbers are only added
  pub numbers-grow : {numbered todo all : List A} → Numbers numbered todo all → length numbered ≤ length all
  numbers-grow done = omega arith
  numbers-grow (again h rest) = numbers-grow rest
  numbers-grow (missing h rest) = numbers-grow rest
  numbers-grow (first {numbered} {todo} {all} {named} {file} h some rest) = omega (arith, numbers-grow rest, length-append numbered (file ∷ []))

  skip : (numbered todo : List A) (file : A) (more : ℕ) → next_new eq targets numbered (file ∷ todo) ≡ next_new eq targets numbered todo → numbered_from eq targets more numbered (file ∷ todo) ≡ numbered_from eq targets more numbered todo
  skip numbered todo file zero e = refl
  skip numbered todo file (suc more) e = ap (λ next. From next numbered more) e

  next-again : (numbered todo : List A) (file : A) → list_any (eq file) numbered ≡ true → next_new eq targets numbered (file ∷ todo) ≡ next_new eq targets numbered todo
  next-again numbered todo file h =
      ap (λ (b : Bool). if b then next_new eq targets numbered todo else option_map_or (λ named. Some (file, named ++ todo)) (targets file) (next_new eq targets numbered todo)) h

  next-missing : (b : Bool) (numbered todo : List A) (file : A) (found : Option (List A)) → found ≡ None
      → (if b then next_new eq targets numbered todo else option_map_or (λ named. Some (file, named ++ todo)) found (next_new eq targets numbered todo)) ≡ next_new eq targets numbered todo
  next-missing true numbered todo file found is = refl
  next-missing false numbered todo file found is = ap (λ (f : Option (List A)). option_map_or (λ named. Some (file, named ++ todo)) f (next_new eq targets numbered todo)) is

  next-first : (numbered todo named : List A) (file : A) → list_any (eq file) numbered ≡ false → targets file ≡ Some named → next_new eq targets numbered (file ∷ todo) ≡ Some (file, named ++ todo)
  next-first numbered todo named file h some =
      ap (λ (b : Bool). if b then next_new eq targets numbered todo else option_map_or (λ more. Some (file, more ++ todo)) (targets file) (next_new eq targets numbered todo)) h
      ∙ ap (λ (f : Option (List A)). option_map_or (λ more. Some (file, more ++ todo)) f (next_new eq targets numbered todo)) some

  -- what the relation gives is what the definition gives, where it may number so many
  pub numbers-same : {numbered todo all : List A} → Numbers numbered todo all → (more : ℕ) → length all ≤ length numbered + more → numbered_from eq targets more numbered todo ≡ all
  numbers-same done zero few = refl
  numbers-same done (suc more) few = refl
  numbers-same (again {numbered} {todo} {all} {file} h rest) more few = skip numbered todo file more (next-again numbered todo file h) ∙ numbers-same rest more few
  numbers-same (missing {numbered} {todo} {all} {file} none rest) more few =
      skip numbered todo file more (next-missing (list_any (eq file) numbered) numbered todo file (targets file) none) ∙ numbers-same rest more few
  numbers-same (first {numbered} {todo} {all} {named} {file} h some rest) zero few = absurd (omega (arith, numbers-grow rest, length-append numbered (file ∷ [])))
  numbers-same (first {numbered} {todo} {all} {named} {file} h some rest) (suc more) few =
      ap (λ n. From n numbered more) (next-first numbered todo named file h some) ∙ numbers-same rest more (omega (arith, length-append numbered (file ∷ [])))
