use Rattle.std.proofs.Common.{subst, IfSome, ◌≤◌}
use Rattle.css_rules.proofs.SpanLemmas.{left-past, where-ok}
use Rattle.css_rules.proofs.reader.push_found.Goals as goal

pub returns-clause-left : goal.returns-clause-left
returns-clause-left c =
    where-ok c.push-2.result _
    (λ end below. left-past c.take_all.new.components c.args.components.now c.in-Some.found.value.to end (subst (λ o. IfSome o (λ found. found.value.to ≤ end)) c.in-Some.is below) c.in_ok-take_all.ensures.left)
