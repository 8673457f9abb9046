use Rattle.std.proofs.Common.{ℕ, ◌-◌, ◌*◌, ◌^◌, ◌∙◌, ap₂}
use Rattle.std.specs.Prelude.{min}
use Rattle.media_spelling.specs.declared.condition.Condition.{Condition}
use Rattle.media_clauses.specs.Clauses.{side, sides_of}
use Rattle.media_clauses.proofs.CountLemmas.{product-step}
use Rattle.media_clauses.proofs.count.+counts.Goals as goal

pub count_product-loop-condition-preserved : goal.count_product-loop-condition-preserved
count_product-loop-condition-preserved t c =
    c.saturating_mul-total.ensures
    ∙ ap₂ (λ (m n : ℕ). min (m * n) (2 ^ 64 - 1)) c.loop-condition.invariant c.count_condition.ensures
    ∙ product-step (λ (x : Condition). side c.args.positive (sides_of x)) c.args.list.now c.loop-condition.condition-index c.condition-item.result c.loop-condition-test.true c.condition-item.is
