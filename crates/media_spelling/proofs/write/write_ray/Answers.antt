use Rattle.css_tokens.specs.NameText.{name_text}
use Rattle.media_spelling.specs.Private.Texts.{bound_text}
use Rattle.media_spelling.proofs.WritingLemmas.{start, more, within, within_last, on_err, on_err_map}
use Rattle.std.proofs.Common.{refl, ◌++◌}
use Rattle.std.specs.Prelude.{codes}
use Rattle.media_spelling.proofs.write.write_ray.Goals as goal

pub returns-in_err-write_marked-clause-err : goal.returns-in_err-write_marked-clause-err
returns-in_err-write_marked-clause-err c = on_err c.from_residual.result (within (codes "(" ++ name_text c.args.name.now) (bound_text c.args.bound.now ++ codes ")") (start c.args.out.now (_)) refl c.in_err-write_marked.ensures.err)

pub returns-clause-err : goal.returns-clause-err
returns-clause-err c = on_err_map c.write_closed_bound.result (within_last (more (codes "(" ++ name_text c.args.name.now) (bound_text c.args.bound.now ++ codes ")") (start c.args.out.now (_)) refl c.in_ok-write_marked.ensures.ok)) c.write_closed_bound.ensures.err
