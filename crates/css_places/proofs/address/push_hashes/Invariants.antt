use Rattle.std.proofs.Common.{◌≡◌, ◌++◌, codes, length, string_bytes}
use denote.Shadow.{shadow}
use denote.Text.{Utf8}
use Rattle.css_places.specs.Rebasing.{replaced}
use Rattle.css_places.proofs.address.push_hashes.Given as goal

abbrev pub invariant-hashes : goal.invariant-hashes
invariant-hashes l = record {
  text : shadow (Utf8 l.rest);
  replaced : string_bytes l.out ++ replaced 35 (codes "%23") l.rest ≡ string_bytes l.fn.out ++ replaced 35 (codes "%23") l.text;
}

abbrev pub decreases-hashes : goal.decreases-hashes
decreases-hashes l = length l.rest
