-- What files are found to be, and the paths that they name.
use Rattle.std.specs.Prelude.{◌≡◌, ℕ, List, [], Option, Some, None, map, length, nat_lt, if◌then◌else◌}
use Rattle.std.specs.List.{AllByRecursion}
use Rattle.css_outside.specs.Names.{Names}
use Rattle.import_graph.specs.Waves.{Targets, IsAll}
use Rattle.import_graph.specs.declared.found.Found.{Found}
use Rattle.import_graph.specs.declared.found.Found.TheVariants.{Whole, Long, Missing}
use Rattle.import_graph.specs.declared.found.ReadFile.{ReadFile}

-- the paths that the file of a path and bytes names, in order
abbrev pub Naming : Type 0
Naming = List ℕ → List ℕ → List (List ℕ)

-- what the file of these bytes, if there is one, is found to be
abbrev pub found_as : Option (List ℕ) → Found
found_as None = Missing
found_as (Some bytes) = if nat_lt 4194304 (length bytes) then Long else Whole bytes

-- a path and its file, where files are told
abbrev pub file_told : Names → List ℕ → ReadFile
file_told told path = record { path = path; found = found_as (told path) }

-- the paths of files
abbrev pub paths_of : List ReadFile → List (List ℕ)
paths_of files = map (λ file. file.path) files

-- the paths that what is found under a path names: none where it is too long
abbrev pub names_in : Naming → List ℕ → Found → Option (List (List ℕ))
names_in naming path (Whole bytes) = Some (naming path bytes)
names_in naming path Long = Some []
names_in naming path Missing = None

-- the paths that a file names
abbrev pub names_of : Naming → ReadFile → Option (List (List ℕ))
names_of naming file = names_in naming file.path file.found

-- the paths that the file of each path names, where files are told
abbrev pub targets_told : Naming → Names → Targets
targets_told naming told path = names_of naming (file_told told path)

-- each of these files names what is told of its path
abbrev pub Agrees : Naming → Targets → List ReadFile → Type 0
Agrees naming targets files = AllByRecursion (λ file. targets file.path ≡ names_of naming file) files

-- the entry reaches these files, in waves, whatever is told of other paths
abbrev pub IsReached : Naming → List ℕ → List ReadFile → Type 0
IsReached naming entry files = (targets : Targets) → Agrees naming targets files → IsAll targets entry (paths_of files)

-- something can be told of all paths that agrees with these files
abbrev pub IsSound : Naming → List ReadFile → Type 0
IsSound naming files = (targets : Targets) × Agrees naming targets files
