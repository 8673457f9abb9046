-- Paths by their places among those that are known.
use Rattle.std.specs.Prelude.{◌≡◌, ℕ, List, [], ◌∷◌, ◌++◌, Option, Some, None, flat_map, slice_get, slice_index_or}
use Rattle.std.specs.List.{AllZip}
use Rattle.std.specs.Option.{unwrap_or}
use Rattle.std.specs.Str.{bytes_eq}
use Rattle.import_graph.specs.Order.{numbered_from}
use Rattle.import_graph.specs.Waves.{Targets, most_paths}

-- the paths of these lists, in order
abbrev pub named_in : List (Option (List (List ℕ))) → List (List ℕ)
named_in lists = flat_map (λ list. unwrap_or list []) lists

-- these are the places of these paths
abbrev pub ArePlaced : List (List ℕ) → List (List ℕ) → List ℕ → Type 0
ArePlaced known paths places = AllZip (λ path place. slice_get known place ≡ Some path) paths places

-- the same, and there are none where there are no paths
abbrev pub IsPlaced : List (List ℕ) → Option (List (List ℕ)) → Option (List ℕ) → Type 0
IsPlaced known None None = Unit {0}
IsPlaced known None (Some places) = ⊥
IsPlaced known (Some paths) None = ⊥
IsPlaced known (Some paths) (Some places) = ArePlaced known paths places

-- the places of the paths of these lists were added
pub record Places (known : List (List ℕ)) (lists : List (Option (List (List ℕ)))) (before now : List (Option (List ℕ))) : Type 0 where
  pub more : List (Option (List ℕ))
  pub added : now ≡ before ++ more
  pub placed : AllZip (IsPlaced known) lists more

-- the path at a place
abbrev pub path_at : List (List ℕ) → ℕ → List ℕ
path_at known place = slice_index_or known place []

-- the paths of the files in the order of their numbers, from the entry on
unfoldable pub path_order : Targets → List ℕ → List (List ℕ)
path_order targets entry = numbered_from bytes_eq targets most_paths [] (entry ∷ [])
