use Rattle.std.proofs.Common.{sym, ◌∙◌}
use Rattle.css_tokens.proofs.PlainFronts.{number_first, percent_first, unit_first}
use Rattle.css_tokens.proofs.front.number.Goals as goal

pub returns-then-not-is_headed-clause-value : goal.returns-then-not-is_headed-clause-value
returns-then-not-is_headed-clause-value c = number_first c.args.text.now c.split_at.result.1.now c.run_length-digits.result c.requires c.run_length-digits.ensures.value c.split_at.ensures.back (sym c.is_headed.ensures ∙ c.if-not-is_headed.true)

pub returns-then-is_headed-clause-value : goal.returns-then-is_headed-clause-value
returns-then-is_headed-clause-value c = percent_first c.args.text.now c.split_at.result.1.now c.run_length-digits.result c.requires c.run_length-digits.ensures.value c.split_at.ensures.back (sym c.is_headed-2.ensures ∙ c.if-is_headed.true)

pub returns-clause-value : goal.returns-clause-value
returns-clause-value c =
    unit_first c.args.text.now c.split_at.result.1.now c.split_at-2.result.1.now c.run_length-digits.result c.run_length-unit.result c.requires c.run_length-digits.ensures.value c.split_at.ensures.back
    (sym c.is_headed-3.ensures ∙ c.if-not-is_headed-2.false) c.run_length-unit.ensures.value c.split_at-2.ensures.back (sym c.is_headed-4.ensures ∙ c.if-is_headed-2.false)
