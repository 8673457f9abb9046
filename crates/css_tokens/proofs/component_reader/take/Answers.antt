use Rattle.std.proofs.Common.{◌∷◌, ◌++◌, []}
use Rattle.css_tokens.specs.Private.Nests.{nest_pieces}
use Rattle.css_tokens.proofs.ComponentReadingLemmas.{fault_taken, holds_more}
use Rattle.css_tokens.proofs.component_reader.take.Goals as goal

pub returns-in-Ok-clause-holds : goal.returns-in-Ok-clause-holds
returns-in-Ok-clause-holds c =
    let took = c.in-Ok.ensures in
    holds_more c.args.nest.now c.take.new.self c.args.token.now c.requires.holds c.requires.unclosed took.pieces took.awaited took.shallow took.formed

pub returns-in-Err-clause-fault : goal.returns-in-Err-clause-fault
returns-in-Err-clause-fault c =
    c.first_fault.ensures (nest_pieces c.args.nest.now ++ c.args.token.now ∷ [])
    (fault_taken c.args.nest.now c.args.token.now c.requires.holds c.in-Err.fault c.in-Err.ensures.mismatch c.in-Err.ensures.deep)
