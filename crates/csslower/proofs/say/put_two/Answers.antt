use Rattle.css_outside.specs.Putting.{message}
use Rattle.csslower.proofs.Parts.{told_front_then, told_front_alone}
use Rattle.csslower.proofs.say.put_two.Goals as goal

pub returns-in-Ok-clause-front : goal.returns-in-Ok-clause-front
returns-in-Ok-clause-front g c = told_front_then message c.args.first.now c.args.second.now (g.O.Outbox.held c.args.out.now) (g.O.Outbox.held c.put_text.new.out) (g.O.Outbox.held c.put_text-in-Ok.new.out) c.in-Ok.ensures.all c.put_text-in-Ok.ensures.front

pub returns-in-Err-clause-front : goal.returns-in-Err-clause-front
returns-in-Err-clause-front g c = told_front_alone message c.args.first.now c.args.second.now (g.O.Outbox.held c.args.out.now) (g.O.Outbox.held c.put_text.new.out) c.put_text.ensures.front
