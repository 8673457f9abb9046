use Rattle.std.proofs.Common.{◌≡◌, length}
use Rattle.css_outside.specs.Names.{Told}
use Rattle.csslower.specs.Private.Putting.{PutsBut}
use Rattle.csslower.proofs.put_text.put_text.Given as goal

abbrev pub invariant-loop-count : goal.invariant-loop-count
invariant-loop-count g l = record {
  ready : g.O.Outbox.ready l.out ≡ g.O.Outbox.ready l.fn.out;
  held : Told (g.O.Outbox.held l.fn.out) (g.O.Outbox.held l.out) (PutsBut l.name l.text l.rest);
  messages : g.O.Outbox.message_faults l.out ≡ g.O.Outbox.message_faults l.fn.out;
  others : g.O.Outbox.faults l.out ≡ g.O.Outbox.faults l.fn.out;
}

abbrev pub decreases-loop-count : goal.decreases-loop-count
decreases-loop-count g l = length l.rest
