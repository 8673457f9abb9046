use Rattle.std.proofs.Common.{arith, refl}
use Rattle.css_rules.proofs.SpanLemmas.{start-last-of, trimmed-at}
use Rattle.css_rules.proofs.cuts.trimmed_span.Goals as goal

pub overflow_sub-from : goal.overflow_sub-from
overflow_sub-from c = (start-last-of c.args.components.now c.trimmed_start-rest.result.now c.trimmed_start-rest.ensures).short

pub returns-clause-items : goal.returns-clause-items
returns-clause-items c = (trimmed-at c.args.components.now c.trimmed_start-rest.result.now c.trimmed_end.result.now _ _ c.trimmed_start-rest.ensures c.trimmed_end.ensures refl refl).0

pub returns-clause-within : goal.returns-clause-within
returns-clause-within c =
    let at = trimmed-at c.args.components.now c.trimmed_start-rest.result.now c.trimmed_end.result.now _ _ c.trimmed_start-rest.ensures c.trimmed_end.ensures refl refl in (at.1, at.2)
