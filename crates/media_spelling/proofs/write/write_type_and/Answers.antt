use Rattle.css_tokens.specs.NameText.{name_text}
use Rattle.media_spelling.specs.Private.Texts.{behind_text}
use Rattle.media_spelling.proofs.WritingLemmas.{start, more, within, within_last, on_err, on_err_map}
use Rattle.std.proofs.Common.{refl, ◌++◌}
use Rattle.std.specs.Prelude.{codes}
use Rattle.media_spelling.proofs.write.write_type_and.Goals as goal

pub returns-in_err-write_ident-clause-err : goal.returns-in_err-write_ident-clause-err
returns-in_err-write_ident-clause-err c = on_err c.from_residual.result (within (name_text c.args.media.now) (codes " and " ++ behind_text c.args.condition.now) (start c.args.out.now (_)) refl c.in_err-write_ident.ensures.err)

pub returns-clause-err : goal.returns-clause-err
returns-clause-err c = on_err_map c.write_and.result (within_last (more (name_text c.args.media.now) (codes " and " ++ behind_text c.args.condition.now) (start c.args.out.now (_)) refl c.in_ok-write_ident.ensures.ok)) c.write_and.ensures.err
