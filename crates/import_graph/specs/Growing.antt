-- What grows as files are read.
use Rattle.std.specs.Prelude.{◌≡◌, ℕ, List, ◌++◌, drop, length, map}
use Rattle.import_graph.specs.Files.{Naming, names_of, paths_of}
use Rattle.import_graph.specs.Places.{Places, named_in}
use Rattle.import_graph.specs.Waves.{new_among}
use Rattle.import_graph.specs.declared.found.ReadFile.{ReadFile}
use Rattle.import_graph.specs.declared.gathering.Reading.{Reading}

-- the files of these paths were added
pub record Follows (paths : List (List ℕ)) (before now : List ReadFile) : Type 0 where
  pub more : List ReadFile
  pub added : now ≡ before ++ more
  pub same : paths_of more ≡ paths

-- the files that were not read follow, what they name is known, and its places follow
pub record Grows (naming : Naming) (before now : Reading) : Type 0 where
  pub more : List ReadFile
  pub added : now.files ≡ before.files ++ more
  pub same : paths_of more ≡ drop (length before.files) before.known.keys
  pub learnt : now.known.keys ≡ before.known.keys ++ new_among before.known.keys (named_in (map (names_of naming) more))
  pub placed : Places now.known.keys (map (names_of naming) more) before.places now.places
