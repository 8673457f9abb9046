use Rattle.std.proofs.Common.{◌≡◌, drop}
use Rattle.css_tokens.specs.Trees.{pieces_all}
use Rattle.css_rules.proofs.SoughtLemmas.{place_found}
use Rattle.css_rules.proofs.refusal.+sought.Given as goal

-- nothing was found so far
abbrev pub invariant-sought_in_all-loop-component : goal.invariant-sought_in_all-loop-component
invariant-sought_in_all-loop-component l = place_found l.sought (pieces_all (drop l.component-index l.components)) ≡ place_found l.sought (pieces_all l.components)
