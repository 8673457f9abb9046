use Rattle.std.proofs.Common.{◌≢◌, ℕ, subst}
use Rattle.css_outside.specs.Counts.{Rose}
use Rattle.css_outside.specs.Names.{Told}
use Rattle.css_outside.specs.Putting.{message}
use Rattle.csslower.specs.Lines.{unwritten_line}
use Rattle.csslower.specs.Saying.{Says}
use Rattle.csslower.specs.Writing.{standard}
use Rattle.csslower.proofs.Says.{told_said_after}
use Rattle.csslower.proofs.judge.write_ready.Goals as goal

pub returns-in-Err-clause-said : goal.returns-in-Err-clause-said
returns-in-Err-clause-said g c = λ path sources.
    let apart : message ≢ standard = λ e. cc in
    let away : standard ≢ message = λ e. cc in
    let faults = g.O.Outbox.message_faults c.say.new.out in
    let failed : Type 0 = Rose (g.O.Outbox.message_faults c.put_text.new.out) faults in
    subst (λ (n : ℕ). Told (g.O.Outbox.held c.args.out.now) (g.O.Outbox.held c.say.new.out) (Says (unwritten_line standard) (Rose n faults))) (c.put_text.ensures.own_messages away)
    (told_said_after (unwritten_line standard) failed c.args.text.now (g.O.Outbox.held c.args.out.now) (g.O.Outbox.held c.put_text.new.out) (g.O.Outbox.held c.say.new.out) apart c.put_text.ensures.front c.say.ensures.said)
