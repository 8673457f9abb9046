-- The order of files by their numbers: depth first, each at its first meeting.
use Rattle.std.specs.Prelude.{ℕ, zero, suc, Bool, List, [], ◌∷◌, ◌++◌, length, Option, Some, None, nat_eq, slice_index_or, if◌then◌else◌}
use Rattle.std.specs.List.{list_any}
use Rattle.std.specs.Option.{option_map_or}

-- over files of any kind: `targets` tells what a file names, and nothing of a file that is missing
module _ {A : Type 0} (eq : A → A → Bool) (targets : A → Option (List A)) where
  -- of the files that are still to be met, the first that has no number and is not missing, and what is to be met behind it: first what it names
  abbrev pub next_new : List A → List A → Option (A × List A)
  next_new numbered [] = None
  next_new numbered (file ∷ todo) =
      if list_any (eq file) numbered then next_new numbered todo else option_map_or (λ named. Some (file, named ++ todo)) (targets file) (next_new numbered todo)

  -- the files that have numbers once at most so many more have got one
  abbrev pub numbered_from : ℕ → List A → List A → List A
  numbered_from zero numbered todo = numbered
  numbered_from (suc more) numbered todo =
      elim (next_new numbered todo) [ None ↦ numbered | Some next ↦ numbered_from more (numbered ++ next.0 ∷ []) next.1 ]

-- what the file at a place names; a place beyond the list is that of a missing file
abbrev pub targets_at : List (Option (List ℕ)) → ℕ → Option (List ℕ)
targets_at targets file = slice_index_or targets file None

-- the places of the files in the order of their numbers, from file 0 on
abbrev pub module_order : List (Option (List ℕ)) → List ℕ
module_order targets = numbered_from nat_eq (targets_at targets) (length targets) [] (0 ∷ [])
