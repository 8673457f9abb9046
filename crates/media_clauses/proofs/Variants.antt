-- What each kind of condition is, laid open.
use Rattle.media_spelling.specs.declared.condition.Condition.TheVariants.{outs-And, outs-Or, outs-Not, outs-Feature, outs-Range}

pub ruleset variants = (outs-And, outs-Or, outs-Not, outs-Feature, outs-Range)
