use Rattle.css_tokens.specs.Values.{value_text}
use Rattle.media_spelling.proofs.WritingLemmas.{start, more, within, within_last, on_err, on_err_map}
use Rattle.std.proofs.Common.{refl}
use Rattle.std.specs.Prelude.{codes}
use Rattle.media_spelling.proofs.write.write_closed_value.Goals as goal

pub returns-in_err-write_value-clause-err : goal.returns-in_err-write_value-clause-err
returns-in_err-write_value-clause-err c = on_err c.from_residual.result (within (value_text c.args.value.now) (codes ")") (start c.args.out.now (_)) refl c.in_err-write_value.ensures.err)

pub returns-clause-err : goal.returns-clause-err
returns-clause-err c = on_err_map c.write_bytes.result (within_last (more (value_text c.args.value.now) (codes ")") (start c.args.out.now (_)) refl c.in_ok-write_value.ensures.ok)) c.write_bytes.ensures.err
