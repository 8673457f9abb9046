use Rattle.std.proofs.Common.{◌≡◌, ◌++◌, rules, length, sym, ap, ◌∙◌, subst, false, codes}
use Rattle.std.specs.Str.{chars}
use Rattle.std.proofs.lemmas.Iterator.{YieldsList-from_chars}
use Rattle.std.proofs.lemmas.List.{length_push}
use Rattle.std.proofs.lemmas.Iterator.Consumers.{YieldsList-turn, YieldsList-end}
use Rattle.css_tokens.specs.Appends.{AppendsFront}
use Rattle.css_tokens.specs.Trees.{is_text}
use Rattle.css_tokens.specs.NameText.{chars_text, name_text}
use Rattle.css_tokens.proofs.AppendLemmas.{appending_start}
use Rattle.css_tokens.proofs.NameTextLemmas.{name_step, name_stop, name_end, name_text-chars}
use Rattle.css_tokens.proofs.print.write_chars.Goals as goal

pub loop-c-init : goal.loop-c-init
loop-c-init c = appending_start c.args.out.now (chars_text (chars c.args.name.now))

pub loop-c-preserved : goal.loop-c-preserved
loop-c-preserved c =
    let t = YieldsList-turn (YieldsList-from_chars c.args.name.now c.utf8.name cc) c.loop-c.yielded _ c.loop-c.yielded_by _ _ c.in-Some.c c.in-Some.is c.next.ensures.steps in
    name_step (chars c.args.name.now) c.args.out.now c.loop-c.out (chars_text (chars c.args.name.now)) c.loop-c.place (length c.loop-c.yielded) c.in-Some.c c.loop-c.invariant c.write_char.new.out c.after-place.result c.is_early.result _ t c.is_early.ensures c.after-place.ensures (length_push c.loop-c.yielded c.in-Some.c) c.in_ok-write_char.ensures.ok

pub returns-in_err-write_char-clause-err : goal.returns-in_err-write_char-clause-err
returns-in_err-write_char-clause-err c =
    let other : is_text c.args.name.now (codes "-") ≡ false = search rules in
    let stop : AppendsFront c.args.out.now c.write_char.new.out (chars_text (chars c.args.name.now)) =
    name_stop (chars c.args.name.now) c.args.out.now c.loop-c.out (chars_text (chars c.args.name.now)) c.loop-c.place (length c.loop-c.yielded) c.in-Some.c c.loop-c.invariant c.write_char.new.out c.in_err-write_char.ensures.err in
    let whole : AppendsFront c.args.out.now c.write_char.new.out (name_text c.args.name.now) = subst (AppendsFront c.args.out.now c.write_char.new.out) (sym (name_text-chars c.args.name.now other)) stop in
    search (rules, whole)

pub returns-clause-ok : goal.returns-clause-ok
returns-clause-ok c =
    let other : is_text c.args.name.now (codes "-") ≡ false = search rules in
    let t = YieldsList-end (YieldsList-from_chars c.args.name.now c.utf8.name cc) c.loop-c.yielded _ c.loop-c.yielded_by _ _ c.in-None.is c.next.ensures.steps in
    name_end (chars c.args.name.now) c.args.out.now c.loop-c.out (chars_text (chars c.args.name.now)) c.loop-c.place (length c.loop-c.yielded) 0 c.loop-c.invariant t.1 ∙ ap (λ r. c.args.out.now ++ r) (sym (name_text-chars c.args.name.now other))
