use Rattle.std.proofs.Common.{length, drop}
use Rattle.std.specs.Str.{chars}
use Rattle.css_tokens.specs.NameText.{chars_text}
use Rattle.css_tokens.specs.Private.NamePlaces.{text_from}
use Rattle.css_tokens.proofs.AppendLemmas.{IsAppending}
use Rattle.css_tokens.proofs.print.write_chars.Given as goal

abbrev pub invariant-loop-c : goal.invariant-loop-c
invariant-loop-c l = IsAppending l.fn.out l.out (text_from l.place (drop (length l.yielded) (chars l.fn.name))) (chars_text (chars l.fn.name))
