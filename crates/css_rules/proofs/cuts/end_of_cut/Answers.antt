use Rattle.std.proofs.Common.{sym, ◌∙◌, ap, arith, [], ◌∷◌, ◌||◌, false}
use Rattle.std.specs.List.{list_any}
use Rattle.css_rules.specs.Private.Marks.{is_mark}
use Rattle.css_rules.proofs.CutAgain.{any-append}
use Rattle.css_rules.proofs.CutLemmas.{slice_range-more, marked-at, past-at}
use Rattle.css_rules.proofs.cuts.end_of_cut.Goals as goal

pub loop-to-preserved : goal.loop-to-preserved
loop-to-preserved c =
    let test = is_mark c.args.mark in
    let unmarked = ap test (sym c.index-components-to.is) ∙ sym c.is.ensures ∙ c.if-not-is.true in (
      omega arith,
      omega arith,
      ap (list_any test) (slice_range-more c.args.components.now c.args.from c.loop-to.to c.index-components-to.result c.loop-to.invariant.0 c.loop-to-test.true)
          ∙ any-append test _ (_ ∷ []) c.loop-to.invariant.2 (ap (λ b. b || false) unmarked),
    )

pub returns-else-not-is-clause-first : goal.returns-else-not-is-clause-first
returns-else-not-is-clause-first c = record {
  before = c.loop-to.invariant.2;
  at = marked-at (is_mark c.args.mark) c.args.components.now c.loop-to.to c.index-components-to.result c.loop-to-test.true
      (ap (is_mark c.args.mark) (sym c.index-components-to.is) ∙ sym c.is.ensures ∙ c.if-not-is.false);
}

pub returns-after-loop-to-clause-first : goal.returns-after-loop-to-clause-first
returns-after-loop-to-clause-first c = record { before = c.loop-to.invariant.2; at = past-at (is_mark c.args.mark) c.args.components.now c.loop-to.to (omega arith) }
