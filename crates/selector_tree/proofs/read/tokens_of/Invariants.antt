use Rattle.std.proofs.Common.{◌≡◌, drop, map}
use Rattle.selector_tree.specs.Signs.{mark_of, tokens_of}
use Rattle.selector_tokens.proofs.JoiningLemmas.{onto}
use Rattle.selector_tree.proofs.read.tokens_of.Given as goal

abbrev pub invariant-loop-component : goal.invariant-loop-component
invariant-loop-component l = onto l.tokens (tokens_of (map mark_of (drop l.component-index l.components))) ≡ tokens_of (map mark_of l.components)
