use Rattle.media_spelling.proofs.SpellingTexts.{text-declaration}
use Rattle.media_spelling.proofs.WritingLemmas.{on_err_map, on_ok_map}
use Rattle.std.proofs.Common.{ap, sym, ◌∙◌, List, ℕ, ◌++◌, subst}
use Rattle.css_tokens.specs.Appends.{AppendsFront}
use Rattle.media_spelling.proofs.write.write_declaration.Goals as goal

pub returns-clause-ok : goal.returns-clause-ok
returns-clause-ok c = on_ok_map c.write_declared.result (λ e. e ∙ ap (λ (t : List ℕ). c.args.out.now ++ t) (sym (text-declaration c.printed_again.ensures.words c.args.name.now c.args.value.now))) c.write_declared.ensures.ok

pub returns-clause-err : goal.returns-clause-err
returns-clause-err c = on_err_map c.write_declared.result (subst (AppendsFront c.args.out.now c.write_declared.new.out) (sym (text-declaration c.printed_again.ensures.words c.args.name.now c.args.value.now))) c.write_declared.ensures.err
