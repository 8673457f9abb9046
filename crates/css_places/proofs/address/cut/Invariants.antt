use Rattle.std.proofs.Common.{◌≡◌, ◌+◌, drop}
use Rattle.std.specs.List.{position_or_len}
use Rattle.css_places.specs.Rebasing.{ends_path}
use Rattle.css_places.proofs.address.cut.Given as goal

-- no byte so far ends the path
abbrev pub invariant-loop-i : goal.invariant-loop-i
invariant-loop-i l = position_or_len ends_path l.url ≡ l.i + position_or_len ends_path (drop l.i l.url)
