-- Conditions of groups as they print, with each place at 0 (Conditional Rules 3, section 2).
use Rattle.media_spelling.specs.Places.{bare_supports}
use Rattle.media_spelling.specs.SupportsAgain.{supports_again}
use Rattle.sheet_types.specs.declared.sheet.GroupCondition.{GroupCondition}
use Rattle.sheet_types.specs.declared.sheet.GroupCondition.TheVariants.{Media, Supports}

-- a media query list as it is, and a supports condition with its values as they print and each place at 0
abbrev pub bare_condition : GroupCondition → GroupCondition
bare_condition (Media queries) = Media queries
bare_condition (Supports condition) = Supports (bare_supports (supports_again condition))
