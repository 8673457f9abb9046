use Rattle.media_spelling.specs.Private.Texts.{front_text}
use Rattle.media_spelling.proofs.WritingLemmas.{start, more, within, within_last, on_err, on_err_map}
use Rattle.std.proofs.Common.{refl}
use Rattle.std.specs.Prelude.{codes}
use Rattle.media_spelling.proofs.write.write_opened_front.Goals as goal

pub returns-in_err-write_bytes-clause-err : goal.returns-in_err-write_bytes-clause-err
returns-in_err-write_bytes-clause-err c = on_err c.from_residual.result (within (codes "(") (front_text c.args.bound.now) (start c.args.out.now (_)) refl c.in_err-write_bytes.ensures.err)

pub returns-clause-err : goal.returns-clause-err
returns-clause-err c = on_err_map c.write_front.result (within_last (more (codes "(") (front_text c.args.bound.now) (start c.args.out.now (_)) refl c.in_ok-write_bytes.ensures.ok)) c.write_front.ensures.err
