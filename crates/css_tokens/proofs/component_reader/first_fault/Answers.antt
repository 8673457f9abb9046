use Rattle.std.proofs.Common.{◌+◌, length}
use Rattle.css_tokens.proofs.ComponentReadingLemmas.{faulty_behind}
use Rattle.css_tokens.proofs.component_reader.first_fault.Goals as goal

pub returns-in-None : goal.returns-in-None
returns-in-None c =
    let all = c.in-None.ensures.none in
    λ front fault. faulty_behind front all.0 c.args.behind.rest.now c.args.behind.at (c.args.behind.at + length c.args.behind.rest.now) c.args.fault fault (all.1 front)
