use Rattle.std.proofs.Common.{◌≡◌, ◌∷◌, [], flat_map, List, ap, sym, ◌∙◌}
use Rattle.sheet_types.specs.declared.sheet.Item.{Item}
use Rattle.sheet_types.specs.declared.sheet.Item as item
use Rattle.sheet_types.specs.declared.sheet.Style as style
use Rattle.media_lower.specs.MediaItems.{lowered_item, lowered-Style}
use Rattle.media_lower.proofs.settled.is_settled.Goals as goal

-- a style rule of which each item stays
style-stays : (s : style.Style) → flat_map lowered_item s.items ≡ s.items → lowered_item (item.Style s) ≡ item.Style s ∷ []
style-stays s h = lowered-Style s ∙ ap (λ (items : List Item). item.Style (record { selectors = s.selectors; items = items; at = s.at }) ∷ []) h

pub returns-in-Style : goal.returns-in-Style
returns-in-Style c = λ e.
    let same = c.as_slice.ensures in
    let inner : flat_map lowered_item c.in-Style.style.items ≡ c.in-Style.style.items = sym (ap (flat_map lowered_item) same) ∙ c.are_runs.ensures e ∙ same in
    ap lowered_item c.in-Style.is ∙ style-stays c.in-Style.style inner ∙ ap (λ (x : Item). x ∷ []) (sym c.in-Style.is)
