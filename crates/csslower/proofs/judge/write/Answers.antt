use Rattle.std.proofs.Common.{ℕ, Option, subst}
use Rattle.css_outside.specs.Counts.{Rose}
use Rattle.css_outside.specs.Names.{Names, Told}
use Rattle.csslower.specs.Saying.{Said}
use Rattle.csslower.specs.Writing.{standard}
use Rattle.csslower.proofs.judge.write.Goals as goal

pub returns-in-Ok-clause-said : goal.returns-in-Ok-clause-said
returns-in-Ok-clause-said g c = λ path sources.
    let held = g.O.Outbox.held c.write_ready.new.out in
    let faults = g.O.Outbox.message_faults c.write_ready.new.out in
    subst (λ (h : Option Names). Told h held (Said standard path sources (Rose (g.O.Outbox.message_faults c.args.out.now) faults) c.write_ready.result)) c.make_ready.ensures.held
    (subst (λ (n : ℕ). Told (g.O.Outbox.held c.make_ready.new.self) held (Said standard path sources (Rose n faults) c.write_ready.result)) c.make_ready.ensures.message_count
    (c.write_ready.ensures.said path sources))
