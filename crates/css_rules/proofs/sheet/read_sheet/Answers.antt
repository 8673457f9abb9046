use Rattle.std.proofs.Common.{◌≡◌, ◌+◌, ◌++◌, ◌∷◌, [], ◌∙◌, sym, ap, subst, take}
use Rattle.std.proofs.lemmas.List.{take_more}
use Rattle.css_rules.specs.SheetBuilding.{HasTaken}
use Rattle.css_rules.proofs.sheet.read_sheet.Goals as goal

pub loop-component-preserved : goal.loop-component-preserved
loop-component-preserved c =
    let at = c.loop-component.component-index in
    let text = c.args.text.now in
    let one : take (at + 1) text ≡ take at text ++ c.in_ok-copy.field-0 ∷ [] =
    take_more text at c.component-item.result c.loop-component-test.true ∙ ap (λ x. take at text ++ x ∷ []) (sym c.component-item.is ∙ sym c.in_ok-copy.ensures) in
    subst (HasTaken c.add.new.self) (sym one) (c.in_ok-add.ensures.ok (take at text) c.loop-component.invariant)
