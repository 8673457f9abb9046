-- Files and outputs in memory: the numbers of their calls, which of them fail, and what a put answers.
use Rattle.std.specs.Prelude.{ℕ, ◌+◌, ◌-◌, ◌^◌, min, Bool, not, ◌||◌, ◌==◌, if◌then◌else◌, List, length, Result, Ok, Err}
use Rattle.std.specs.List.{list_any}
use Rattle.css_outside.specs.Rooms.{Rooms, fits}
use Rattle.css_outside.specs.Spaces.{room_in}
use Rattle.css_outside.specs.declared.memory.memory_files.MemoryFiles.{MemoryFiles}
use Rattle.css_outside.specs.declared.memory.memory_outbox.MemoryOutbox.{MemoryOutbox}
use Rattle.css_outside.specs.declared.outbox.PutFailed.{PutFailed}
use Rattle.css_outside.specs.declared.outbox.PutFailed.TheVariants.{Failed}

-- the number of the next call after so many, from 1 on; it stands still at the greatest number that it can have
abbrev pub next_call : ℕ → ℕ
next_call calls = min (calls + 1) (2 ^ 32 - 1)

-- does this number stand among these?
abbrev pub stands_in : ℕ → List ℕ → Bool
stands_in number numbers = list_any (λ other. other == number) numbers

-- how many reads there were
abbrev pub reads_of : MemoryFiles → ℕ
reads_of all = all.reads

-- the numbers of the reads that fail
abbrev pub failing_reads : MemoryFiles → List ℕ
failing_reads all = all.failing

-- how many puts there were
abbrev pub puts_of : MemoryOutbox → ℕ
puts_of all = all.puts

-- the numbers of the puts that fail
abbrev pub failing_puts : MemoryOutbox → List ℕ
failing_puts all = all.failing

-- how many bytes a put takes at most
abbrev pub most_of : MemoryOutbox → ℕ
most_of all = all.most

-- how many more bytes fit under each name that has a space
abbrev pub room_under : MemoryOutbox → Rooms
room_under all = room_in all.spaces.items

-- how many bytes of a piece a put takes where it does not fail
abbrev pub put_count : MemoryOutbox → List ℕ → ℕ
put_count all piece = min (length piece) (most_of all)

-- Does the next put of a piece to a name fail? Its number stands among the failing ones, or what it takes does not fit.
abbrev pub put_fails : MemoryOutbox → List ℕ → List ℕ → Bool
put_fails all name piece = stands_in (next_call (puts_of all)) (failing_puts all) || not (fits (room_under all name) (put_count all piece))

-- what the next put of a piece to a name answers
abbrev pub put_answer : MemoryOutbox → List ℕ → List ℕ → Result ℕ PutFailed
put_answer all name piece = if put_fails all name piece then Err Failed else Ok (put_count all piece)
