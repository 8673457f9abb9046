use Rattle.media_spelling.specs.Private.Texts.{bound_text}
use Rattle.media_spelling.proofs.WritingLemmas.{start, more, within, within_last, on_err, on_err_map}
use Rattle.std.proofs.Common.{refl}
use Rattle.std.specs.Prelude.{codes}
use Rattle.media_spelling.proofs.write.write_closed_bound.Goals as goal

pub returns-in_err-write_bound-clause-err : goal.returns-in_err-write_bound-clause-err
returns-in_err-write_bound-clause-err c = on_err c.from_residual.result (within (bound_text c.args.bound.now) (codes ")") (start c.args.out.now (_)) refl c.in_err-write_bound.ensures.err)

pub returns-clause-err : goal.returns-clause-err
returns-clause-err c = on_err_map c.write_bytes.result (within_last (more (bound_text c.args.bound.now) (codes ")") (start c.args.out.now (_)) refl c.in_ok-write_bound.ensures.ok)) c.write_bytes.ensures.err
