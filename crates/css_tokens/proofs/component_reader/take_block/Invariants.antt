use Rattle.std.proofs.Common.{◌≡◌, ◌≤◌, ◌+◌, length}
use Rattle.css_tokens.specs.Private.ComponentReading.{IsReadOn, HoldsOne}
use Rattle.css_tokens.specs.Private.Nests.{nest_pieces}
use Rattle.css_tokens.proofs.component_reader.take_block.Given as goal

-- the nest holds the tokens that are read
abbrev pub invariant-loop-alloc : goal.invariant-loop-alloc
invariant-loop-alloc l = record {
  holds : HoldsOne l.nest;
  read : IsReadOn (nest_pieces l.fn.nest) l.fn.cursor.rest.now l.fn.cursor.at (nest_pieces l.nest) l.cursor.rest.now l.cursor.at;
  forward : length l.cursor.rest.now ≤ length l.fn.cursor.rest.now;
  end : l.cursor.at + length l.cursor.rest.now ≡ l.fn.cursor.at + length l.fn.cursor.rest.now;
}

abbrev pub decreases-loop-alloc : goal.decreases-loop-alloc
decreases-loop-alloc l = length l.cursor.rest.now
