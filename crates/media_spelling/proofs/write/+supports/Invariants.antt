use Rattle.std.proofs.Common.{drop}
use Rattle.media_spelling.specs.Private.Texts.{left_text, nested_text, row_text}
use Rattle.media_spelling.proofs.WritingLemmas.{IsWritten}
use Rattle.media_spelling.proofs.write.+supports.Given as goal

abbrev pub invariant-write_supports_row-loop-condition : goal.invariant-write_supports_row-loop-condition
invariant-write_supports_row-loop-condition l = IsWritten l.initial.out l.out (row_text l.between nested_text l.row) (left_text l.wanted l.between nested_text (drop l.condition-index l.row))
