use Rattle.std.proofs.Common.{◌∙◌, ap, sym}
use Rattle.css_rules.specs.RuleEnds.{begins_at_rule}
use Rattle.css_rules.proofs.CutMarks.{rule-at, rule-plain}
use Rattle.css_rules.proofs.cuts.rule_mark.Goals as goal

pub returns-then-begins_at_rule : goal.returns-then-begins_at_rule
returns-then-begins_at_rule c = rule-at c.args.components.now (ap begins_at_rule (sym c.trimmed_start.ensures) ∙ sym c.begins_at_rule.ensures ∙ c.if-begins_at_rule.true)

pub returns-else-begins_at_rule : goal.returns-else-begins_at_rule
returns-else-begins_at_rule c = rule-plain c.args.components.now (ap begins_at_rule (sym c.trimmed_start.ensures) ∙ sym c.begins_at_rule.ensures ∙ c.if-begins_at_rule.false)
