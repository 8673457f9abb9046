use Rattle.std.proofs.Common.{ℕ, ◌-◌, ◌*◌, ◌^◌, ◌∙◌, ap₂}
use Rattle.std.specs.Prelude.{min}
use Rattle.media_clauses.specs.Clauses.{query_clauses}
use Rattle.media_clauses.proofs.CountLemmas.{product-step}
use Rattle.media_clauses.proofs.count.count_queries.Goals as goal

pub loop-query-preserved : goal.loop-query-preserved
loop-query-preserved c =
    c.saturating_mul-total.ensures
    ∙ ap₂ (λ (m n : ℕ). min (m * n) (2 ^ 64 - 1)) c.loop-query.invariant c.count_query.ensures
    ∙ product-step query_clauses c.args.list.now c.loop-query.query-index c.query-item.result c.loop-query-test.true c.query-item.is
