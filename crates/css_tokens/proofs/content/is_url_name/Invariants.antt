use Rattle.std.proofs.Common.{◌≡◌, drop, true}
use Rattle.css_tokens.specs.Private.Contents.{is_bounded}
use Rattle.css_tokens.proofs.ContentSteps.{From}
use Rattle.css_tokens.proofs.content.is_url_name.Given as goal

-- the letters so far, and what is left of the name
abbrev pub invariant-loop-byte : goal.invariant-loop-byte
invariant-loop-byte l = record {
  bounded : is_bounded l.part ≡ true;
  letters : From l.text l.letters l.part (drop l.byte-index l.text);
}
