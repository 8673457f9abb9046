-- How many more bytes fit under names.
use Rattle.std.specs.Prelude.{◌≡◌, ◌≢◌, ◌-◌, ℕ, Bool, false, nat_le, List, Option}
use Rattle.std.specs.Option.{option_map, option_map_or}

-- how many more bytes fit under each name that has a space
abbrev pub Rooms : Type 0
Rooms = List ℕ → Option ℕ

-- do so many more bytes fit? Where there is no space none do, not even no bytes
abbrev pub fits : Option ℕ → ℕ → Bool
fits room count = option_map_or (nat_le count) room false

-- Bytes were added under a name: so many fewer fit there, and as many as before under each other name.
pub record TakesRoom (name : List ℕ) (count : ℕ) (before now : Rooms) : Type 0 where
  pub own : now name ≡ option_map (λ room. room - count) (before name)
  pub others : (other : List ℕ) → other ≢ name → now other ≡ before other

-- as many bytes fit under each name as before
abbrev pub SameRooms : Rooms → Rooms → Type 0
SameRooms before now = (name : List ℕ) → now name ≡ before name

-- as many bytes fit under each other name as before
abbrev pub SameOtherRooms : List ℕ → Rooms → Rooms → Type 0
SameOtherRooms name before now = (other : List ℕ) → other ≢ name → now other ≡ before other
