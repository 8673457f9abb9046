use Rattle.std.proofs.Common.{◌≡◌, ◌++◌, length, drop, true, string_bytes}
use Rattle.std.specs.Str.{chars}
use lib.Utf8.{encodes}
use Rattle.css_tokens.specs.Contents.{content, content_from}
use Rattle.css_tokens.specs.Private.Contents.{ends_of, is_bounded}
use Rattle.css_tokens.proofs.content.decode.Given as goal

-- what is decoded so far, and what is left
abbrev pub invariant-loop-c : goal.invariant-loop-c
invariant-loop-c l = record {
  bounded : is_bounded l.part ≡ true;
  decoded : string_bytes l.out ++ content_from (ends_of l.end) l.part (encodes (drop (length l.yielded) (chars l.fn.text))) ≡ content (ends_of l.end) l.fn.text;
}
