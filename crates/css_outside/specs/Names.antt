-- What is known under names: a map from names to bytes, as of files to what they hold.
use Rattle.std.specs.Prelude.{◌≡◌, ℕ, Bool, true, ◌&&◌, not, List, [], ◌∷◌, Option, Some, None, find}
use Rattle.std.specs.List.{list_all}
use Rattle.std.specs.Option.{option_map, unwrap_or}
use Rattle.std.specs.Str.{bytes_eq}

-- the bytes under each name that has some
abbrev pub Names : Type 0
Names = List ℕ → Option (List ℕ)

-- no name has any
abbrev pub no_names : Names
no_names name = None

-- the files of a list, each a name and its bytes; the first of a name counts
abbrev pub named : List (List ℕ × List ℕ) → Names
named files name = option_map (λ file. file.1) (find (λ file. bytes_eq file.0 name) files)

-- does no name of a list come again after it?
abbrev pub are_distinct : List (List ℕ) → Bool
are_distinct [] = true
are_distinct (name ∷ names) = list_all (λ other. not (bytes_eq name other)) names && are_distinct names

-- the bytes under a name, and none where it has none
abbrev pub bytes_under : Names → List ℕ → List ℕ
bytes_under names name = unwrap_or (names name) []

-- Where a map was told it still is, and the two maps stand in a relation; where none was, nothing is said.
abbrev pub Told : Option Names → Option Names → (Names → Names → Type 0) → Type 0
Told None now P = Unit {0}
Told (Some before) None P = ⊥
Told (Some before) (Some now) P = P before now

-- all names have what they had
abbrev pub Same : Names → Names → Type 0
Same before now = (name : List ℕ) → now name ≡ before name
