use Rattle.media_spelling.specs.Spelling.{ends_in_dashes, turned}
use Rattle.media_spelling.specs.Private.Texts.{parted_text}
use Rattle.media_spelling.proofs.WritingLemmas.{start, more, within, within_last, on_err, on_err_map}
use Rattle.std.proofs.Common.{refl}
use Rattle.media_spelling.proofs.write.write_front.Goals as goal

pub returns-in_err-write_text-clause-err : goal.returns-in_err-write_text-clause-err
returns-in_err-write_text-clause-err c = on_err c.from_residual.result (within (c.args.bound.now.value) (parted_text (ends_in_dashes c.args.bound.now.value) (turned c.args.bound.now.relation)) (start c.args.out.now (_)) refl c.in_err-write_text.ensures.err)

pub returns-clause-err : goal.returns-clause-err
returns-clause-err c = on_err_map c.write_turned.result (within_last (more (c.args.bound.now.value) (parted_text (ends_in_dashes c.args.bound.now.value) (turned c.args.bound.now.relation)) (start c.args.out.now (_)) refl c.in_ok-write_text.ensures.ok)) c.write_turned.ensures.err
