use Rattle.std.proofs.Common.{◌≡◌, drop, true}
use Rattle.std.specs.Char.{is_ascii}
use Rattle.std.specs.List.{list_all}
use Rattle.css_tokens.specs.Private.Contents.{is_bounded}
use Rattle.css_tokens.proofs.KeywordLemmas.{From}
use Rattle.css_tokens.proofs.keyword.is_word.Given as goal

-- what is left of the word, and of the text
abbrev pub invariant-loop-byte : goal.invariant-loop-byte
invariant-loop-byte l = record {
  bounded : is_bounded l.part ≡ true;
  ascii : list_all is_ascii l.left ≡ true;
  left : From l.text l.word l.left l.part (drop l.byte-index l.text);
}
