use Rattle.std.proofs.Common.{subst, sym}
use Rattle.css_tokens.specs.Pairing.{IsPaired}
use Rattle.css_tokens.proofs.OneComponent.{nest_paired, taken_pieces, taken_formed, nothing_left}
use Rattle.css_tokens.proofs.component_reader.take_out.Goals as goal

pub returns-clause-pieces : goal.returns-clause-pieces
returns-clause-pieces c = taken_pieces c.args.nest.now c.requires.holds c.requires.closed c.requires.some c.pop.new.self c.in-Some.component c.in-Some.ensures.items

pub returns-clause-formed : goal.returns-clause-formed
returns-clause-formed c = taken_formed c.args.nest.now c.requires.holds c.requires.closed c.requires.some c.pop.new.self c.in-Some.component c.in-Some.ensures.items

pub returns-clause-nothing : goal.returns-clause-nothing
returns-clause-nothing c = record {
  outer = c.requires.closed;
  items = nothing_left c.args.nest.now c.requires.holds c.requires.closed c.requires.some c.pop.new.self c.in-Some.component c.in-Some.ensures.items;
}

pub returns-clause-paired : goal.returns-clause-paired
returns-clause-paired c =
    let pieces = taken_pieces c.args.nest.now c.requires.holds c.requires.closed c.requires.some c.pop.new.self c.in-Some.component c.in-Some.ensures.items in
    subst IsPaired (sym pieces) (nest_paired c.args.nest.now c.requires.holds c.requires.closed)
