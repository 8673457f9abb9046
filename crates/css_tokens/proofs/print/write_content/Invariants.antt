use Rattle.std.proofs.Common.{drop}
use Rattle.std.specs.Prelude.{flat_map}
use Rattle.css_tokens.specs.StringText.{string_byte}
use Rattle.css_tokens.proofs.AppendLemmas.{IsAppending}
use Rattle.css_tokens.proofs.print.write_content.Given as goal

abbrev pub invariant-loop-byte : goal.invariant-loop-byte
invariant-loop-byte l = IsAppending l.initial.out l.out (flat_map string_byte (drop l.byte-index l.bytes)) (flat_map string_byte l.bytes)
