use Rattle.std.proofs.Common.{◌≡◌, drop}
use Rattle.std.specs.Prelude.{string_bytes}
use Rattle.selector_tokens.specs.Arguments.{texts_of}
use Rattle.selector_tokens.proofs.JoiningLemmas.{onto}
use Rattle.selector_tokens.proofs.argument.texts_of.Given as goal

abbrev pub invariant-loop-token : goal.invariant-loop-token
invariant-loop-token l = onto (string_bytes l.joined) (texts_of l.white (drop l.token-index l.tokens)) ≡ texts_of l.white l.tokens
