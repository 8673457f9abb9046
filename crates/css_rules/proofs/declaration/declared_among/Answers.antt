use Rattle.std.proofs.Common.{◌∙◌, sym, ap, arith, Some, option_map}
use Rattle.css_rules.specs.Private.Spans.{declared_in}
use Rattle.css_rules.proofs.SpanLemmas.{found-last-of}
use Rattle.css_rules.proofs.declaration.declared_among.Goals as goal

pub overflow_sub-components : goal.overflow_sub-components
overflow_sub-components c = c.requires.last.short

pub returns-in-Some-clause-found : goal.returns-in-Some-clause-found
returns-in-Some-clause-found c =
    ap Some (found-last-of c.args.components.now c.args.tail.now c.in-Some.found c.behind.result c.behind.ensures c.requires.last)
    ∙ ap (option_map (declared_in c.args.tail.now)) (sym c.in-Some.is)
    ∙ c.in_ok-found.ensures.found
