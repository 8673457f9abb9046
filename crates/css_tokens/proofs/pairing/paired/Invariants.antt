use Rattle.std.proofs.Common.{◌≡◌, ◌≤◌, Some, take, true, length}
use Rattle.css_tokens.specs.Pairing.{awaited, IsShallow}
use Rattle.css_tokens.specs.Private.Nests.{nest_pieces, nest_awaited, nest_formed}
use Rattle.css_tokens.proofs.pairing.paired.Given as goal

abbrev pub invariant-loop-token : goal.invariant-loop-token
invariant-loop-token l = record {
  pieces : nest_pieces l.nest ≡ take l.token-index l.tokens;
  matched : awaited (take l.token-index l.tokens) ≡ Some (nest_awaited l.nest);
  shallow : IsShallow (take l.token-index l.tokens);
  within : length (nest_awaited l.nest) ≤ 64;
  formed : nest_formed l.nest ≡ true;
}
