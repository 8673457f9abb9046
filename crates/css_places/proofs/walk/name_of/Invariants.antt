use Rattle.std.proofs.Common.{◌≡◌, length}
use denote.Shadow.{shadow}
use denote.Text.{Utf8}
use Rattle.css_places.specs.Parts.{parts_of}
use Rattle.css_places.proofs.walk.name_of.Given as goal

abbrev pub invariant-folders : goal.invariant-folders
invariant-folders l = record {
  text : shadow (Utf8 l.rest);
  name : (parts_of l.path).name ≡ (parts_of l.rest).name;
}

abbrev pub decreases-folders : goal.decreases-folders
decreases-folders l = length l.rest
