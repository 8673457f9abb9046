use Rattle.std.proofs.Common.{◌≡◌, ◌++◌, ap, ◌∙◌, subst, rules, Ok}
use Rattle.css_tokens.specs.declared.value.Pending.TheVariants.{Start}
use Rattle.css_tokens.specs.Appends.{AppendsFront}
use Rattle.css_tokens.specs.Trees.{words_all}
use Rattle.css_tokens.specs.Values.{value_text}
use Rattle.css_tokens.specs.Private.Pendings.{Writes}
use Rattle.css_tokens.proofs.ValueLemmas.{texts_after_start}
use Rattle.css_tokens.proofs.WritingLemmas.{front_of}
use Rattle.css_tokens.proofs.value.write_value.Goals as goal

pub returns-in_err-write_components-clause-err : goal.returns-in_err-write_components-clause-err
returns-in_err-write_components-clause-err c =
    let ws = words_all c.args.value.now in
    let front = front_of Start ws c.args.out.now c.write_components.new.out c.write_components.result (search rules) c.write_components.ensures in
    let whole : AppendsFront c.args.out.now c.write_components.new.out (value_text c.args.value.now) = subst (AppendsFront c.args.out.now c.write_components.new.out) (texts_after_start ws) front in
    search (rules, whole)

pub returns-clause-ok : goal.returns-clause-ok
returns-clause-ok c =
    let ws = words_all c.args.value.now in
    let written = subst (Writes Start ws c.args.out.now c.write_components.new.out) (let e : c.write_components.result ≡ Ok c.in_ok-write_components.field-0 = search rules in e) c.write_components.ensures in
    written.0 ∙ ap (λ t. c.args.out.now ++ t) (texts_after_start ws)
