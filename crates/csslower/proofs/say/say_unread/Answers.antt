use Rattle.css_outside.specs.Counts.{Rose}
use Rattle.csslower.specs.Lines.{unread_line}
use Rattle.csslower.proofs.Says.{says, says_unread}
use Rattle.csslower.proofs.say.say_unread.Goals as goal

pub returns-clause-said : goal.returns-clause-said
returns-clause-said g c =
    let failed : Type 0 = Rose (g.O.Outbox.message_faults c.args.out.now) (g.O.Outbox.message_faults c.put_three.new.out) in
    says_unread c.as_bytes.result.now c.args.path.now failed (g.O.Outbox.held c.args.out.now) (g.O.Outbox.held c.put_three.new.out) c.as_bytes.ensures.value
    (says c.put_three.result (unread_line c.as_bytes.result.now) failed (g.O.Outbox.held c.args.out.now) (g.O.Outbox.held c.put_three.new.out) c.put_three.ensures.all c.put_three.ensures.front c.put_three.ensures.cause)
