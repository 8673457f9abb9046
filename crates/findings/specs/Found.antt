-- A finding by its file, its place and its code.
use Rattle.std.specs.Prelude.{ℕ}
use Rattle.css_places.specs.declared.finding.Code.{Code}
use Rattle.css_places.specs.declared.finding.Finding.{Finding}

-- the finding of this code at this place of this file
abbrev pub found_at : ℕ → ℕ → Code → Finding
found_at file at code = record { place = record { file = file; offset = at }; code = code }
