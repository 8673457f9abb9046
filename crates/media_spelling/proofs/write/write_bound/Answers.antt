use Rattle.media_spelling.specs.Private.Texts.{relation_text}
use Rattle.media_spelling.proofs.WritingLemmas.{start, more, within, within_last, on_err, on_err_map}
use Rattle.std.proofs.Common.{refl}
use Rattle.media_spelling.proofs.write.write_bound.Goals as goal

pub returns-in_err-write_relation-clause-err : goal.returns-in_err-write_relation-clause-err
returns-in_err-write_relation-clause-err c = on_err c.from_residual.result (within (relation_text c.args.bound.now.relation) (c.args.bound.now.value) (start c.args.out.now (_)) refl c.in_err-write_relation.ensures.err)

pub returns-clause-err : goal.returns-clause-err
returns-clause-err c = on_err_map c.write_text.result (within_last (more (relation_text c.args.bound.now.relation) (c.args.bound.now.value) (start c.args.out.now (_)) refl c.in_ok-write_relation.ensures.ok)) c.write_text.ensures.err
