use Rattle.std.proofs.Common.{◌≡◌, take}
use Rattle.css_tokens.proofs.component.+copies.Given as goal

-- the copies so far are the components so far
abbrev pub invariant-copy_all-loop-component : goal.invariant-copy_all-loop-component
invariant-copy_all-loop-component l = l.copies ≡ take l.component-index l.components
