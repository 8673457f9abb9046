-- How values that are written out compute.
use Rattle.css_tokens.specs.ValueAgain.{head_kind-Single}
use Rattle.css_tokens.specs.declared.component.Component.TheVariants.{outs-Single}

-- the equations by which the worked examples compute
pub ruleset computing = (head_kind-Single, outs-Single)
