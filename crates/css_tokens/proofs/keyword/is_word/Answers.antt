use Rattle.std.proofs.Common.{◌≡◌, ◌+◌, drop, arith, refl, sym, ap, subst, ◌∙◌, Some, None}
use Rattle.std.proofs.lemmas.List.{drop_all}
use Rattle.std.specs.Option.{option_map}
use Rattle.css_tokens.specs.Private.Contents.{taken}
use Rattle.css_tokens.specs.Private.Keywords.{is_done, left_after}
use Rattle.css_tokens.proofs.KeywordLemmas.{From, ascii-left, empty-done, from-turn, from-other, from-end}
use Rattle.css_tokens.proofs.keyword.is_word.Goals as goal

pub returns-in-None : goal.returns-in-None
returns-in-None c =
    from-other c.args.text.now c.args.word.now c.loop-byte.left.now c.loop-byte.byte-index _ _ c.step-step.result (omega arith) refl c.step-step.ensures.step
    (sym c.after_step.ensures ∙ ap (option_map (λ rest. rest.now)) c.in-None.is) c.loop-byte.invariant.left

pub loop-byte-preserved : goal.loop-byte-preserved
loop-byte-preserved c =
    let left : left_after c.loop-byte.left.now (taken c.step-step.result _).1 ≡ Some c.in-Some.rest.now = sym c.after_step.ensures ∙ ap (option_map (λ rest. rest.now)) c.in-Some.is in
    record {
      bounded = c.step-step.ensures.bounded;
      ascii = ascii-left c.loop-byte.left.now (taken c.step-step.result _).1 c.in-Some.rest.now c.loop-byte.invariant.ascii left;
      left = from-turn c.args.text.now c.args.word.now c.loop-byte.left.now c.in-Some.rest.now c.loop-byte.byte-index _ _ c.step-step.result (omega arith) refl c.step-step.ensures.step left c.loop-byte.invariant.left;
    }

pub returns-in-Some-after_escape : goal.returns-in-Some-after_escape
returns-in-Some-after_escape c =
    let text = c.args.text.now in
    let e = drop_all c.loop-byte.byte-index text (omega arith) in
    c.is_empty.ensures
    ∙ empty-done c.in-Some-after_escape.rest.now
    ∙ ap is_done (sym (ap (option_map (λ rest. rest.now)) c.in-Some-after_escape.is) ∙ c.after_escape.ensures ∙ ap (left_after c.loop-byte.left.now) c.flush.ensures)
    ∙ from-end text c.args.word.now c.loop-byte.left.now c.loop-byte.part (subst (From text c.args.word.now c.loop-byte.left.now c.loop-byte.part) e c.loop-byte.invariant.left)

pub returns-in-None-after_escape : goal.returns-in-None-after_escape
returns-in-None-after_escape c =
    let text = c.args.text.now in
    let e = drop_all c.loop-byte.byte-index text (omega arith) in
    ap is_done (sym (ap (option_map (λ rest. rest.now)) c.in-None-after_escape.is) ∙ c.after_escape.ensures ∙ ap (left_after c.loop-byte.left.now) c.flush.ensures)
    ∙ from-end text c.args.word.now c.loop-byte.left.now c.loop-byte.part (subst (From text c.args.word.now c.loop-byte.left.now c.loop-byte.part) e c.loop-byte.invariant.left)
