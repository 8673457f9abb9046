use Rattle.std.proofs.Common.{◌≡◌, ◌≤◌, ◌+◌}
use Rattle.css_places.specs.Lines.{line_of, column_of}
use Rattle.css_places.proofs.place.line_column.Given as goal

-- the line and the column of the place so far
abbrev pub invariant-loop-byte : goal.invariant-loop-byte
invariant-loop-byte l =
    (l.line ≡ line_of l.text l.byte-index) × (l.column ≡ column_of l.text l.byte-index) × (l.line ≤ l.byte-index + 1) × (l.column ≤ l.byte-index + 1)
