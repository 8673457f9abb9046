use Rattle.std.proofs.Common.{◌∙◌, sym, ap, option_map}
use Rattle.std.proofs.lemmas.List.{take_rest}
use Rattle.css_components.specs.Trimming.{trimmed_start}
use Rattle.css_rules.proofs.SpanLemmas.{tail-last}
use Rattle.css_rules.proofs.declaration.find_declaration.Goals as goal

pub declared_among-requires-clause-last : goal.declared_among-requires-clause-last
declared_among-requires-clause-last c =
    tail-last c.args.components.now c.trimmed_start.result.now c.in-Some.tail.now c.in-len1-up.len_at_least (c.trimmed_start.ensures ∙ ap trimmed_start (take_rest c.args.components.now 1)) (sym c.after_colon.ensures ∙ ap (option_map (λ t. t.now)) c.in-Some.is)
