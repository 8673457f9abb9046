use Rattle.findings.specs.MediaFeatures.{features_in, is_young, under_not}
use Rattle.findings.proofs.Lists.{any-here, any-past}
use Rattle.findings.proofs.media.+young.Goals as goal

pub is_young_among-loop-condition-preserved : goal.is_young_among-loop-condition-preserved
is_young_among-loop-condition-preserved t c =
    any-past is_young (λ x. under_not c.args.negated (features_in x)) c.args.list.now c.loop-condition.condition-index c.condition-item.result c.is_young_in.result _ c.loop-condition-test.true c.condition-item.is c.is_young_in.ensures c.if-is_young_in.false c.loop-condition.invariant

pub is_young_among-returns-then-is_young_in : goal.is_young_among-returns-then-is_young_in
is_young_among-returns-then-is_young_in t c =
    any-here is_young (λ x. under_not c.args.negated (features_in x)) c.args.list.now c.loop-condition.condition-index c.condition-item.result c.is_young_in.result _ c.loop-condition-test.true c.condition-item.is c.is_young_in.ensures c.if-is_young_in.true c.loop-condition.invariant
