use Rattle.std.proofs.Common.{◌≡◌, take}
use Rattle.css_tokens.specs.declared.machine.State.TheVariants as state
use Rattle.css_tokens.specs.Tokens.{classes_of}
use Rattle.css_tokens.proofs.Runs.{run}
use Rattle.css_tokens.proofs.value.kind_with_space.Given as goal

-- the machine has read the bytes so far
abbrev pub invariant-loop-byte : goal.invariant-loop-byte
invariant-loop-byte l = l.state ≡ run state.Start (classes_of (take l.byte-index l.text))
