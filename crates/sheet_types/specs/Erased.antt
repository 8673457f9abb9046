-- Components with each place at 0, and values as they print.
use Rattle.std.specs.Prelude.{List, map}
use Rattle.css_tokens.specs.declared.component.Component.{Component}
use Rattle.css_tokens.specs.ValueAgain.{value_again}
pub use Rattle.media_spelling.specs.Places.{bare as erased, bare_block as erased_block, bare-Single as erased-Single, bare-Block as erased-Block, placeless}

-- a value with white space and comments short, and no places
abbrev pub bare_value : List Component → List Component
bare_value v = map erased (value_again v)
