-- Files of the worked examples.
use Rattle.std.specs.Prelude.{ℕ, List, [], ◌∷◌, Some, None, map}
use Rattle.std.specs.Option.{option_map}
use Rattle.import_graph.specs.Order.{targets_at}
use Rattle.import_graph.specs.Waves.{Targets}

-- file 0 names 1, 2 and itself, file 1 names 3, file 2 names 3 and 4, and file 3 names none; 4 is missing
abbrev pub sample : Targets
sample [] = None
sample (number ∷ rest) = option_map (map (λ target. target ∷ [])) (targets_at (Some (1 ∷ 2 ∷ 0 ∷ []) ∷ Some (3 ∷ []) ∷ Some (3 ∷ 4 ∷ []) ∷ Some [] ∷ []) number)
