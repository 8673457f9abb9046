use Rattle.std.proofs.Common.{drop}
use Rattle.std.specs.Prelude.{codes}
use Rattle.media_spelling.specs.Private.Texts.{left_text, query_text}
use Rattle.media_spelling.specs.Spelling.{queries_text}
use Rattle.media_spelling.proofs.WritingLemmas.{IsWritten}
use Rattle.media_spelling.proofs.write.write_queries.Given as goal

abbrev pub invariant-loop-query : goal.invariant-loop-query
invariant-loop-query l = IsWritten l.initial.out l.out (queries_text l.list) (left_text l.wanted (codes ",") query_text (drop l.query-index l.list))
