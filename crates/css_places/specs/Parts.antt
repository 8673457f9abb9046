-- Paths, cut at their slashes.
use Rattle.std.specs.Prelude.{ℕ, List, [], ◌∷◌, ◌++◌, Bool, codes, flat_map, nat_eq, if◌then◌else◌}

-- a slash?
abbrev pub is_slash : ℕ → Bool
is_slash c = nat_eq c 47

-- what stands before each slash of a path, and what stands behind the last
pub record Parts : Type 0 where
  pub folders : List (List ℕ)
  pub name : List ℕ

-- the parts, with one more character at the start of the first
abbrev pub with_front : ℕ → Parts → Parts
with_front c parts = begun parts.folders
  where
    begun : List (List ℕ) → Parts
    begun [] = record { folders = []; name = c ∷ parts.name }
    begun (folder ∷ folders) = record { folders = (c ∷ folder) ∷ folders; name = parts.name }

-- the parts of a path
abbrev pub parts_of : List ℕ → Parts
parts_of [] = record { folders = []; name = [] }
parts_of (c ∷ path) = if is_slash c then record { folders = [] ∷ (parts_of path).folders; name = (parts_of path).name } else with_front c (parts_of path)

-- its folders, and then its name
abbrev pub components_of : List ℕ → List (List ℕ)
components_of path = (parts_of path).folders ++ (parts_of path).name ∷ []

-- further components, each behind a slash
abbrev pub further : List (List ℕ) → List ℕ
further components = flat_map (λ component. codes "/" ++ component) components

-- the path of these components
abbrev pub path_of : List (List ℕ) → List ℕ
path_of [] = []
path_of (component ∷ components) = component ++ further components
