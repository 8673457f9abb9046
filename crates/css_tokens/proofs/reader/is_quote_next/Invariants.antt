use Rattle.std.proofs.Common.{◌≡◌, drop}
use Rattle.css_tokens.specs.Tokens.{classes_of, quote_follows}
use Rattle.css_tokens.proofs.reader.is_quote_next.Given as goal

-- white space so far
abbrev pub invariant-loop-byte : goal.invariant-loop-byte
invariant-loop-byte l = quote_follows (classes_of l.text) ≡ quote_follows (classes_of (drop l.byte-index l.text))
