use Rattle.media_spelling.specs.Private.Texts.{prefix_text, query_text, typed_text}
use Rattle.media_spelling.proofs.SpellingTexts.{text-query}
use Rattle.media_spelling.proofs.WritingLemmas.{start, more, last, within, within_last, on_err, on_err_map, on_ok_map}
use Rattle.media_spelling.proofs.write.write_query.Goals as goal

pub returns-in_err-write_prefix-clause-err : goal.returns-in_err-write_prefix-clause-err
returns-in_err-write_prefix-clause-err c = on_err c.from_residual.result (within (prefix_text c.args.query.now.prefix) (typed_text c.args.query.now.media c.args.query.now.condition) (start c.args.out.now (query_text c.args.query.now)) (text-query c.args.query.now) c.in_err-write_prefix.ensures.err)

pub returns-clause-err : goal.returns-clause-err
returns-clause-err c = on_err_map c.write_typed.result (within_last (more (prefix_text c.args.query.now.prefix) (typed_text c.args.query.now.media c.args.query.now.condition) (start c.args.out.now (query_text c.args.query.now)) (text-query c.args.query.now) c.in_ok-write_prefix.ensures.ok)) c.write_typed.ensures.err

pub returns-clause-ok : goal.returns-clause-ok
returns-clause-ok c = on_ok_map c.write_typed.result (last (more (prefix_text c.args.query.now.prefix) (typed_text c.args.query.now.media c.args.query.now.condition) (start c.args.out.now (query_text c.args.query.now)) (text-query c.args.query.now) c.in_ok-write_prefix.ensures.ok)) c.write_typed.ensures.ok
