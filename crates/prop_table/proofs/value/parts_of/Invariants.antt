use Rattle.std.proofs.Common.{◌≡◌, take}
use Rattle.std.specs.List.{filter}
use Rattle.css_tokens.specs.ValueAgain.{is_solid}
use Rattle.prop_table.proofs.value.parts_of.Given as goal

-- the parts so far are those of the components so far
abbrev pub invariant-loop-component : goal.invariant-loop-component
invariant-loop-component l = l.parts ≡ filter is_solid (take l.component-index l.value)
