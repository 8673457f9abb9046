use Rattle.css_tokens.specs.NameText.{name_text}
use Rattle.media_spelling.specs.Private.Texts.{feature_text, value_end_text}
use Rattle.media_spelling.proofs.SpellingTexts.{text-feature}
use Rattle.media_spelling.proofs.WritingLemmas.{start, more, last, within, within_last, on_err, on_err_map, on_ok_map}
use Rattle.std.proofs.Common.{◌++◌}
use Rattle.std.specs.Prelude.{codes}
use Rattle.media_spelling.proofs.write.write_feature.Goals as goal

pub returns-in_err-write_marked-clause-err : goal.returns-in_err-write_marked-clause-err
returns-in_err-write_marked-clause-err c = on_err c.from_residual.result (within (codes "(" ++ name_text c.args.feature.now.name) (value_end_text c.args.feature.now.value) (start c.args.out.now (feature_text c.args.feature.now)) (text-feature c.args.feature.now) c.in_err-write_marked.ensures.err)

pub returns-clause-err : goal.returns-clause-err
returns-clause-err c = on_err_map c.write_value_end.result (within_last (more (codes "(" ++ name_text c.args.feature.now.name) (value_end_text c.args.feature.now.value) (start c.args.out.now (feature_text c.args.feature.now)) (text-feature c.args.feature.now) c.in_ok-write_marked.ensures.ok)) c.write_value_end.ensures.err

pub returns-clause-ok : goal.returns-clause-ok
returns-clause-ok c = on_ok_map c.write_value_end.result (last (more (codes "(" ++ name_text c.args.feature.now.name) (value_end_text c.args.feature.now.value) (start c.args.out.now (feature_text c.args.feature.now)) (text-feature c.args.feature.now) c.in_ok-write_marked.ensures.ok)) c.write_value_end.ensures.ok
