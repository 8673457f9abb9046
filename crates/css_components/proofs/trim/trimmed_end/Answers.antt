use Rattle.std.proofs.Common.{sym, ◌∙◌, ap, arith, ◌≡◌, take}
use Rattle.css_components.specs.Components.{is_gap}
use Rattle.css_components.specs.Trimming.{trimmed_end}
use Rattle.css_components.proofs.TrimLemmas.{trimmed_end-step, trimmed_end-done}
use Rattle.css_components.proofs.trim.trimmed_end.Goals as goal
use Rattle.css_components.proofs.trim.trimmed_end.Goals.{then-loop-to-test+else-is_gap, else-loop-to-test}

pub loop-to-preserved : goal.loop-to-preserved
loop-to-preserved c = (
  omega arith,
  trimmed_end-step c.args.components.now c.loop-to.to c.index-components-to.result c.loop-to-test.true c.loop-to.invariant.0
      (ap is_gap (sym c.index-components-to.is) ∙ sym c.is_gap.ensures ∙ c.if-is_gap.true)
      ∙ c.loop-to.invariant.1,
)

pub returns : goal.returns
returns c =
    elim c.loop-to-test.branch [
      | then-loop-to-test+else-is_gap w ↦
          trimmed_end-done c.args.components.now c.loop-to.to w.index-components-to.result w.loop-to-test.true c.loop-to.invariant.0
          (ap is_gap (sym w.index-components-to.is) ∙ sym w.is_gap.ensures ∙ w.if-is_gap.false)
          ∙ c.loop-to.invariant.1
      | else-loop-to-test w ↦
          let none : c.loop-to.to ≡ 0 = omega arith in
          ap (λ n. take n c.args.components.now) none
          ∙ ap (λ n. trimmed_end (take n c.args.components.now)) (sym none)
          ∙ c.loop-to.invariant.1
    ]
