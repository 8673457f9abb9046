use Rattle.std.proofs.Common.{◌≡◌, drop}
use Rattle.css_tokens.specs.Trees.{pieces_all}
use Rattle.css_rules.specs.Private.Waiting.{seen_over}
use Rattle.css_rules.proofs.waiting.+seen.Given as goal

-- what is seen over the components that are left is what is seen over all of them
abbrev pub invariant-over_all-loop-component : goal.invariant-over_all-loop-component
invariant-over_all-loop-component l = seen_over l.seen (pieces_all (drop l.component-index l.components)) ≡ seen_over l.fn.begun (pieces_all l.components)
