use Rattle.std.proofs.Common.{◌≡◌, ◌∙◌, sym, ap, arith, ◌++◌, ◌∷◌, [], ◌+◌, slice_range}
use Rattle.std.proofs.lemmas.List.{drop-set-lt, length-set}
use Rattle.css_rules.proofs.CutLemmas.{slice_range-more}
use Rattle.css_rules.proofs.SpanLemmas.{left-past, same-at}
use Rattle.css_rules.proofs.reader.take_all.Goals as goal

pub loop-at-preserved : goal.loop-at-preserved
loop-at-preserved c =
    let old = c.args.components.now in
    let now = c.loop-at.components in
    let at = c.loop-at.at in
    let d = c.index-components-at.result in
    let same = same-at old now at d (sym c.loop-at.invariant.4) in (
      omega arith,
      omega arith,
      length-set now at c.take_one.new.component ∙ c.loop-at.invariant.2,
      c.in_ok-push.ensures.ok
          ∙ ap (λ xs. xs ++ c.take_one.result ∷ []) c.loop-at.invariant.3
          ∙ ap (λ x. slice_range old c.args.place.from at ++ x ∷ []) (c.take_one.ensures ∙ sym same)
          ∙ sym (slice_range-more old c.args.place.from at d c.loop-at.invariant.0 (omega (arith, c.requires.1, c.loop-at-test.true))),
      drop-set-lt (at + 1) now at c.take_one.new.component (omega arith) ∙ left-past now old at (at + 1) (omega arith) c.loop-at.invariant.4,
    )
