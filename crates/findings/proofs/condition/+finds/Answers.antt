use Rattle.std.proofs.Common.{sym, ◌∙◌, ap}
use Rattle.std.specs.Prelude.{flat_map}
use Rattle.findings.specs.Firsts.{first_from}
use Rattle.findings.specs.SupportsFunctions.{called-And, called-Or, supports_findings}
use Rattle.findings.proofs.Finding.{found-next}
use Rattle.findings.proofs.condition.+finds.Goals as goal

pub in_supports-returns-in-And : goal.in_supports-returns-in-And
in_supports-returns-in-And t c =
    c.in_each.ensures
    ∙ ap (λ cs. first_from c.args.best (flat_map (supports_findings c.args.file) cs)) c.as_slice.ensures
    ∙ sym (ap (first_from c.args.best) (called-And c.args.file c.in-And.list))
    ∙ ap (λ s. first_from c.args.best (supports_findings c.args.file s)) (sym c.in-And.is)

pub in_supports-returns-in-Or : goal.in_supports-returns-in-Or
in_supports-returns-in-Or t c =
    c.in_each-in-Or.ensures
    ∙ ap (λ cs. first_from c.args.best (flat_map (supports_findings c.args.file) cs)) c.as_slice-in-Or.ensures
    ∙ sym (ap (first_from c.args.best) (called-Or c.args.file c.in-Or.list))
    ∙ ap (λ s. first_from c.args.best (supports_findings c.args.file s)) (sym c.in-Or.is)

pub in_each-loop-condition-preserved : goal.in_each-loop-condition-preserved
in_each-loop-condition-preserved t c =
    let condition = c.condition-item.result in
    c.in_supports-best.ensures
    ∙ ap (λ b. first_from b (supports_findings c.args.file condition)) c.loop-condition.invariant
    ∙ sym (found-next c.args.best (supports_findings c.args.file) c.args.list.now c.loop-condition.condition-index condition c.loop-condition-test.true c.condition-item.is)
