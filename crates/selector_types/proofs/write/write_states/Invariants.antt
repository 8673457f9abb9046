use Rattle.std.proofs.Common.{drop}
use Rattle.selector_types.proofs.SpellingTexts.{states_text}
use Rattle.selector_types.proofs.WritingLemmas.{IsWritten}
use Rattle.selector_types.proofs.write.write_states.Given as goal

abbrev pub invariant-loop-state : goal.invariant-loop-state
invariant-loop-state l = IsWritten l.initial.out l.out (states_text l.states) (states_text (drop l.state-index l.states))
