use Rattle.std.proofs.Common.{drop}
use Rattle.media_spelling.specs.Private.Texts.{inside_text, left_text, row_text}
use Rattle.media_spelling.proofs.WritingLemmas.{IsWritten}
use Rattle.media_spelling.proofs.write.+conditions.Given as goal

abbrev pub invariant-write_row-loop-condition : goal.invariant-write_row-loop-condition
invariant-write_row-loop-condition l = IsWritten l.initial.out l.out (row_text l.between inside_text l.row) (left_text l.wanted l.between inside_text (drop l.condition-index l.row))
