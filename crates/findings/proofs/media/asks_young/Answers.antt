use Rattle.findings.specs.MediaFeatures.{is_young, query_negated}
use Rattle.findings.proofs.Lists.{any-here, any-past}
use Rattle.findings.proofs.media.asks_young.Goals as goal

pub loop-query-preserved : goal.loop-query-preserved
loop-query-preserved c =
    any-past is_young query_negated c.args.list.now c.loop-query.query-index c.query-item.result c.asks.result _ c.loop-query-test.true c.query-item.is c.asks.ensures c.if-asks.false c.loop-query.invariant

pub returns-then-asks : goal.returns-then-asks
returns-then-asks c =
    any-here is_young query_negated c.args.list.now c.loop-query.query-index c.query-item.result c.asks.result _ c.loop-query-test.true c.query-item.is c.asks.ensures c.if-asks.true c.loop-query.invariant
