use Rattle.std.specs.Prelude.{codes, flat_map}
use Rattle.std.proofs.Common.{[], ◌∷◌, ◌++◌, ◌≡◌, ◌||◌, ap, sym, ◌∙◌}
use Rattle.prop_table.specs.LogicalProperties.{axes, borders, sides, sizes_of, spaces_of}
use Rattle.prop_table.proofs.Parts.{is_one, logical-told, or-first, or-second}
use Rattle.prop_table.proofs.logical.is_logical.Goals as goal
use Rattle.prop_table.proofs.logical.is_logical.Goals.{then-is_space, else-is_space, then-is_border, else-is_border}

pub returns-then-is_size : goal.returns-then-is_size
returns-then-is_size c =
    let name = c.args.name.now in
    let space = is_one name (flat_map spaces_of (sides ++ axes)) in
    let border = is_one name borders in
    let size = is_one name (flat_map sizes_of axes) in
    let two : (space || border) ≡ c.if-is_space.value = elim c.if-is_space.branch [
      | then-is_space w ↦ or-first border c.is_space.ensures w.if-is_space.true w.value-is
      | else-is_space w ↦ or-second border c.is_space.ensures w.if-is_space.false w.is_border.ensures w.value-is
    ] in
    let three : ((space || border) || size) ≡ c.if-is_border.value = elim c.if-is_border.branch [
      | then-is_border w ↦ or-first size (sym two) w.if-is_border.true w.value-is
      | else-is_border w ↦ or-second size (sym two) w.if-is_border.false w.is_size.ensures w.value-is
    ] in
    let all = logical-told name ∙ ap (λ b. b || is_one name (codes "inset" ∷ [])) (three ∙ c.if-is_size.true) in
    c.if-is_size.true ∙ sym all
