use Rattle.css_rules.proofs.NestedRules.{rules-read, rules-refused}
use Rattle.css_rules.proofs.reading_law.sheets_are_read_rule_by_rule.Goals as goal

pub returns : goal.returns
returns c = record { items = rules-read; refusals = rules-refused }
