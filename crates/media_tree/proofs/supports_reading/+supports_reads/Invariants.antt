use Rattle.std.proofs.Common.{◌≡◌, drop, map}
use Rattle.media_tree.specs.Conditions.{condition_of, solid}
use Rattle.media_tree.specs.Private.Readings.{continued}
use Rattle.media_tree.specs.SupportsReading.{makes, sign_of}
use Rattle.media_tree.proofs.supports_reading.+supports_reads.Given as goal

abbrev pub invariant-condition_in-loop-component : goal.invariant-condition_in-loop-component
invariant-condition_in-loop-component l = continued makes l.reading (solid (map sign_of (drop l.component-index l.components))) ≡ condition_of makes (solid (map sign_of l.components))
