use Rattle.std.proofs.Common.{◌+◌, drop, arith, refl, ap, subst, ◌∙◌}
use Rattle.std.proofs.lemmas.List.{drop_all}
use Rattle.css_tokens.specs.Private.Contents.{letters_after}
use Rattle.css_tokens.proofs.ContentSteps.{From, from_turn, from_other, from_end}
use Rattle.css_tokens.proofs.content.is_url_name.Goals as goal

pub returns-in-Other : goal.returns-in-Other
returns-in-Other c =
    let text = c.args.text.now in
    from_other text c.step-step.result.part (drop (c.loop-byte.byte-index + 1) text) c.after_step-letters.result c.in-Other.is
    (from_turn text c.loop-byte.byte-index _ _ _ _ c.step-step.result (omega arith) refl c.step-step.ensures.step c.after_step-letters.ensures c.loop-byte.invariant.letters)

pub loop-byte-preserved : goal.loop-byte-preserved
loop-byte-preserved c = record {
  bounded = c.step-step.ensures.bounded;
  letters = from_turn c.args.text.now c.loop-byte.byte-index _ _ _ _ c.step-step.result (omega arith) refl c.step-step.ensures.step c.after_step-letters.ensures c.loop-byte.invariant.letters;
}

pub returns : goal.returns
returns c =
    let text = c.args.text.now in
    let l = c.loop-byte.letters in
    let p = c.loop-byte.part in
    let e = drop_all c.loop-byte.byte-index text (omega arith) in
    c.are_whole.ensures ∙ from_end text p l c.after_escape.result (c.after_escape.ensures ∙ ap (letters_after l) c.flush.ensures) (subst (From text l p) e c.loop-byte.invariant.letters)
