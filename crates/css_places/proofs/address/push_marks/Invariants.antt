use Rattle.std.proofs.Common.{◌≡◌, ◌++◌, codes, length, string_bytes}
use denote.Shadow.{shadow}
use denote.Text.{Utf8}
use Rattle.css_places.specs.Rebasing.{replaced}
use Rattle.css_places.proofs.address.push_marks.Given as goal

abbrev pub invariant-marks : goal.invariant-marks
invariant-marks l = record {
  text : shadow (Utf8 l.rest);
  replaced : string_bytes l.out ++ replaced 63 (codes "%3F") l.rest ≡ string_bytes l.fn.out ++ replaced 63 (codes "%3F") l.text;
}

abbrev pub decreases-marks : goal.decreases-marks
decreases-marks l = length l.rest
