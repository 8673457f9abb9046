use Rattle.media_spelling.specs.Private.Texts.{relation_text, wanted_text}
use Rattle.media_spelling.proofs.WritingLemmas.{start, more, within, within_last, on_err, on_err_map}
use Rattle.std.proofs.Common.{refl}
use Rattle.std.specs.Prelude.{codes}
use Rattle.media_spelling.proofs.write.write_parted.Goals as goal

pub returns-in_err-write_wanted-clause-err : goal.returns-in_err-write_wanted-clause-err
returns-in_err-write_wanted-clause-err c = on_err c.from_residual.result (within (wanted_text c.args.dashes (codes " ")) (relation_text c.args.relation) (start c.args.out.now (_)) refl c.in_err-write_wanted.ensures.err)

pub returns-clause-err : goal.returns-clause-err
returns-clause-err c = on_err_map c.write_relation.result (within_last (more (wanted_text c.args.dashes (codes " ")) (relation_text c.args.relation) (start c.args.out.now (_)) refl c.in_ok-write_wanted.ensures.ok)) c.write_relation.ensures.err
