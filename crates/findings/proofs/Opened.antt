-- How each simple selector lies open.
use Rattle.selector_types.specs.declared.selector.Simple.TheVariants.{outs-Class, outs-Id, outs-Attribute, outs-Pseudo, outs-Not, outs-Is, outs-Where, outs-Parent, outs-Local, outs-Global, outs-Foreign}

pub ruleset opened = (outs-Class, outs-Id, outs-Attribute, outs-Pseudo, outs-Not, outs-Is, outs-Where, outs-Parent, outs-Local, outs-Global, outs-Foreign)
