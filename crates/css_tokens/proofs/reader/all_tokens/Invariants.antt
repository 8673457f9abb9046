use Rattle.std.proofs.Common.{◌≡◌, ◌+◌, map, length}
use denote.Text.{Utf8}
use denote.Shadow.{shadow}
use Rattle.css_tokens.specs.Piece.{word_of}
use Rattle.css_tokens.specs.Tokens.{ReadsTo, IsPlaced}
use Rattle.css_tokens.proofs.Reading.{size}
use Rattle.css_tokens.proofs.reader.all_tokens.Given as goal

-- the tokens so far are those of the text up to the rest
abbrev pub invariant-loop-rest : goal.invariant-loop-rest
invariant-loop-rest l = record {
  text : shadow (Utf8 l.rest);
  read : ReadsTo l.text (map word_of l.tokens) l.rest;
  placed : IsPlaced l.start l.tokens;
  at : l.at ≡ l.start + size l.tokens;
}

abbrev pub decreases-loop-rest : goal.decreases-loop-rest
decreases-loop-rest l = length l.rest
