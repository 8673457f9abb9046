use Rattle.std.proofs.Common.{drop, ap, ◌+◌, ◌++◌}
use Rattle.std.specs.Prelude.{codes}
use Rattle.selector_types.proofs.SpellingTexts.{states_text}
use Rattle.selector_types.proofs.WritingLemmas.{within, on_err, at-item}
use Rattle.selector_types.proofs.write.write_states.Goals as goal

pub returns-in_err-write_behind-clause-err : goal.returns-in_err-write_behind-clause-err
returns-in_err-write_behind-clause-err c =
    let here = at-item c.args.states.now c.loop-state.state-index c.state-item.result c.loop-state-test.true c.state-item.is in
    on_err c.from_residual.result (within (codes ":" ++ c.state-item.result) (states_text (drop (c.loop-state.state-index + 1) c.args.states.now)) c.loop-state.invariant (ap states_text here) c.in_err-write_behind.ensures.err)
