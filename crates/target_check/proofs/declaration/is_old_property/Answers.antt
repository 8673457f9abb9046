use Rattle.std.proofs.Common.{◌&&◌, not, sym, ◌∙◌, ap}
use Rattle.prop_table.specs.LogicalProperties.{is_logical}
use Rattle.target_check.proofs.declaration.is_old_property.Goals as goal

pub returns-then-ne : goal.returns-then-ne
returns-then-ne c =
    ap not c.is_logical.ensures ∙ sym (ap (λ b. b && not (is_logical c.args.name.now)) (sym c.ne.ensures ∙ c.if-ne.true))

pub returns-else-ne : goal.returns-else-ne
returns-else-ne c =
    c.if-ne.false ∙ sym (ap (λ b. b && not (is_logical c.args.name.now)) (sym c.ne.ensures ∙ c.if-ne.false))
