use Rattle.std.proofs.Common.{◌∙◌, ap, sym}
use Rattle.css_rules.specs.Declarations.{begins_custom}
use Rattle.css_rules.proofs.CutMarks.{item-custom, item-other}
use Rattle.css_rules.proofs.cuts.item_mark.Goals as goal

pub returns-then-branch : goal.returns-then-branch
returns-then-branch c = item-custom c.args.components.now (ap begins_custom (sym c.trimmed_start.ensures) ∙ sym c.in_ok-begins_custom.ensures ∙ c.if-branch.true)

pub returns-else-branch : goal.returns-else-branch
returns-else-branch c = item-other c.args.components.now (ap begins_custom (sym c.trimmed_start.ensures) ∙ sym c.in_ok-begins_custom.ensures ∙ c.if-branch.false)
