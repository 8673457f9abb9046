use Rattle.std.proofs.Common.{◌≡◌, take}
use Rattle.css_components.proofs.copies.copied.Given as goal

-- the copies so far are the components so far
abbrev pub invariant-loop-component : goal.invariant-loop-component
invariant-loop-component l = l.copy ≡ take l.component-index l.components
