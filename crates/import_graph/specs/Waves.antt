-- The waves in which files are read.
use Rattle.std.specs.Prelude.{◌≡◌, ℕ, zero, suc, ◌<◌, ◌≤◌, List, [], ◌∷◌, ◌++◌, Option, length, flat_map, if◌then◌else◌}
use Rattle.std.specs.List.{list_any}
use Rattle.std.specs.Option.{unwrap_or}
use Rattle.std.specs.Str.{bytes_eq}

-- the paths that the file of each path names, in order; nothing is told of a file that is missing
abbrev pub Targets : Type 0
Targets = List ℕ → Option (List (List ℕ))

-- the same, where a missing file names none
abbrev pub named_by : Targets → List ℕ → List (List ℕ)
named_by targets path = unwrap_or (targets path) []

-- the paths among these that are not known yet, each once, in order
abbrev pub new_among : List (List ℕ) → List (List ℕ) → List (List ℕ)
new_among known [] = []
new_among known (path ∷ paths) = if list_any (bytes_eq path) known then new_among known paths else path ∷ new_among (known ++ path ∷ []) paths

-- the paths of a wave, and those of all waves before it
pub record Wave : Type 0 where
  pub before : List (List ℕ)
  pub paths : List (List ℕ)

-- the paths of a wave and of all before it
abbrev pub through : Wave → List (List ℕ)
through wave = wave.before ++ wave.paths

-- the wave after this one: what its files name and is in no wave yet
abbrev pub after : Targets → Wave → Wave
after targets last = record { before = through last; paths = new_among (through last) (flat_map (named_by targets) last.paths) }

-- the wave of a number, from 0 on: first the entry, and then what the files of the wave before name
abbrev pub wave_of : Targets → List ℕ → ℕ → Wave
wave_of targets entry zero = record { before = []; paths = entry ∷ [] }
wave_of targets entry (suc number) = after targets (wave_of targets entry number)

-- how many paths there may be
abbrev pub most_paths : ℕ
most_paths = 1024

-- these are the paths of all waves, and not too many
pub record IsAll (targets : Targets) (entry : List ℕ) (paths : List (List ℕ)) : Type 0 where
  pub number : ℕ
  pub all : paths ≡ through (wave_of targets entry number)
  pub last : (wave_of targets entry (suc number)).paths ≡ []
  pub few : length paths ≤ most_paths

-- these are the paths of all waves before the one that would bring too many
pub record IsCut (targets : Targets) (entry : List ℕ) (paths : List (List ℕ)) : Type 0 where
  pub number : ℕ
  pub all : paths ≡ through (wave_of targets entry number)
  pub few : length paths ≤ most_paths
  pub past : most_paths < length (through (wave_of targets entry (suc number)))

-- these are the first paths of waves that bring not too many
pub record IsFront (targets : Targets) (entry : List ℕ) (paths : List (List ℕ)) : Type 0 where
  pub number : ℕ
  pub rest : List (List ℕ)
  pub all : paths ++ rest ≡ through (wave_of targets entry number)
  pub few : length (paths ++ rest) ≤ most_paths
