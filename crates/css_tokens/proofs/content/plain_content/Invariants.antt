use Rattle.std.proofs.Common.{◌≡◌, ◌++◌, take, drop}
use Rattle.css_tokens.specs.declared.content.Part.TheVariants.{Outside}
use Rattle.css_tokens.specs.Contents.{content, content_from}
use Rattle.css_tokens.specs.Private.Contents.{ends_of}
use Rattle.css_tokens.proofs.content.plain_content.Given as goal

-- the bytes so far stand for themselves
abbrev pub invariant-loop-i : goal.invariant-loop-i
invariant-loop-i l = take l.i l.text ++ content_from (ends_of l.end) Outside (drop l.i l.text) ≡ content (ends_of l.end) l.text
