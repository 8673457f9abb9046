use Rattle.std.proofs.Common.{◌≡◌, drop, map}
use Rattle.media_tree.specs.Conditions.{solid}
use Rattle.media_tree.specs.Private.Readings.{list_from}
use Rattle.media_tree.specs.Queries.{queries_reading, sign_of}
use Rattle.media_tree.proofs.query.list_in.Given as goal

abbrev pub invariant-loop-component : goal.invariant-loop-component
invariant-loop-component l = list_from l.listing (solid (map sign_of (drop l.component-index l.components))) ≡ queries_reading l.components
