use Rattle.std.proofs.Common.{◌≡◌, length}
use Rattle.css_places.specs.Schemes.{behind_scheme}
use Rattle.css_places.proofs.scheme.behind_scheme.Given as goal

abbrev pub invariant-characters : goal.invariant-characters
invariant-characters l = behind_scheme l.text ≡ behind_scheme l.rest

abbrev pub decreases-characters : goal.decreases-characters
decreases-characters l = length l.rest
