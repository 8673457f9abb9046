use Rattle.std.proofs.Common.{◌≡◌, ◌+◌, ◌++◌, List, length}
use Rattle.css_tokens.specs.Piece.{Piece}
use Rattle.css_tokens.specs.Private.ComponentReading.{IsReadOn}
use Rattle.css_tokens.proofs.cursor.Cursor.stop.Given as goal

-- some more pieces are read
abbrev pub invariant-loop-cursor : goal.invariant-loop-cursor
invariant-loop-cursor l = record {
  read : (more : List Piece) × ((before : List Piece) → IsReadOn before l.fn.self.rest.now l.fn.self.at (before ++ more) l.cursor.rest.now l.cursor.at);
  end : l.cursor.at + length l.cursor.rest.now ≡ l.fn.self.at + length l.fn.self.rest.now;
}

abbrev pub decreases-loop-cursor : goal.decreases-loop-cursor
decreases-loop-cursor l = length l.cursor.rest.now
