-- What a refusal of a media query list or a supports condition says.
use Rattle.std.specs.Prelude.{◌≡◌, Option, None}
use Rattle.media_tree.specs.declared.fault.MediaFault.{MediaFault}
use Rattle.media_tree.specs.declared.fault.MediaFault.TheVariants.{Syntax, Memory}

-- A refusal for want of memory may come at any time. Another one says that nothing is spelled there.
abbrev pub FaultIs : {A : Type 0} → MediaFault → Option A → Type 0
FaultIs Syntax reading = reading ≡ None
FaultIs Memory reading = Unit {0}
