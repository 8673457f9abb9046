use Rattle.std.proofs.Common.{◌≡◌, ◌-◌, ◌≤◌, length, List}
use Rattle.css_tokens.specs.declared.component.Component.{Component}
use Rattle.css_tokens.specs.Components.{HasRead}
use Rattle.css_rules.specs.SheetBuilding.{HasTaken}
use Rattle.sheet_reader.proofs.read.read_text.Given as goal

-- what the reader has read of the text, the builder has taken
abbrev pub invariant-loop-builder : goal.invariant-loop-builder
invariant-loop-builder l = record {
  text : l.reader.text ≡ l.fn.text;
  within : l.reader.at ≤ length l.reader.text;
  taken : (done : List Component) × HasRead l.reader done × HasTaken l.builder done;
}

abbrev pub decreases-loop-builder : goal.decreases-loop-builder
decreases-loop-builder l = length l.reader.text - l.reader.at
