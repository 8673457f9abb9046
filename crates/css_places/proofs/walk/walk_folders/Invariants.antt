use Rattle.std.proofs.Common.{◌≡◌, length, map}
use denote.Shadow.{shadow}
use denote.Text.{Utf8}
use Rattle.css_places.specs.Parts.{parts_of}
use Rattle.css_places.specs.Walks.{walk}
use Rattle.css_places.proofs.walk.walk_folders.Given as goal

abbrev pub invariant-folders : goal.invariant-folders
invariant-folders l = record {
  text : shadow (Utf8 l.rest);
  walked : walk l.above (map (λ c. c.now) l.fn.kept) (parts_of l.path).folders ≡ walk l.above (map (λ c. c.now) l.kept) (parts_of l.rest).folders;
  name : (parts_of l.path).name ≡ (parts_of l.rest).name;
}

abbrev pub decreases-folders : goal.decreases-folders
decreases-folders l = length l.rest
