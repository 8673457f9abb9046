-- Spaces in memory, what is held in them, and how much more fits.
use Rattle.std.specs.Prelude.{ℕ, Bool, List, Option, Some, None, if◌then◌else◌, find, string_bytes}
use Rattle.std.specs.Option.{option_map, option_map_or}
use Rattle.std.specs.Str.{bytes_eq}
use Rattle.css_outside.specs.Names.{Names}
use Rattle.css_outside.specs.Rooms.{Rooms}
use Rattle.css_outside.specs.declared.memory.space.Space.{Space}

-- the bytes of a space to which there was a put
abbrev pub held_of : Space → Option (List ℕ)
held_of space = if space.begun then Some space.bytes.items else None

-- is this the space of that name?
abbrev pub is_named : List ℕ → Space → Bool
is_named name space = bytes_eq (string_bytes space.name) name

-- what is held under each name; the first space of a name counts
abbrev pub held_in : List Space → Names
held_in spaces name = option_map_or held_of (find (is_named name) spaces) None

-- how many more bytes fit under each name that has a space
abbrev pub room_in : List Space → Rooms
room_in spaces name = option_map (λ space. space.room) (find (is_named name) spaces)
