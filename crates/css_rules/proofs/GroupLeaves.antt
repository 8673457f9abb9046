-- What is printed of groups and at-rules, and that they may stand at the top of a sheet.
use Rattle.std.proofs.Common.{◌≡◌, ℕ, List, [], ◌∷◌, map, true, refl, ◌∙◌, ap}
use Rattle.std.specs.List.{list_all, AllByRecursion}
use Rattle.std.proofs.lemmas.List.{append-nil}
use Rattle.std.proofs.lemmas.List.Folds.{flat_map-map}
use Rattle.sheet_types.specs.ItemFold.{folded-Group, folded-Passed, folded-Other}
use Rattle.sheet_types.specs.Leaves.{IsTop, Leaf, OfPassed, Seat, all_leaves, group_leaves, leafing, leaves, seat, seating}
use Rattle.sheet_types.specs.declared.sheet.Group as group
use Rattle.sheet_types.specs.declared.sheet.Item.{Item}
use Rattle.sheet_types.specs.declared.sheet.Item as item
use Rattle.sheet_types.specs.declared.sheet.Passed.{Passed}
use Rattle.css_rules.proofs.BoolLemmas.{and-both}

pub leaves-Group : (g : group.Group) → all_leaves (item.Group g ∷ []) ≡ group_leaves g.condition (all_leaves g.items)
leaves-Group g = append-nil (leaves (item.Group g)) ∙ folded-Group leafing g ∙ ap (group_leaves g.condition) (flat_map-map (λ (ls : List Leaf). ls) leaves g.items)

pub leaves-Passed : (rule : Passed) → all_leaves (item.Passed rule ∷ []) ≡ OfPassed rule ∷ []
leaves-Passed rule = append-nil (leaves (item.Passed rule)) ∙ folded-Passed leafing rule

pub leaves-Other : (at : ℕ) → all_leaves (item.Other at ∷ []) ≡ []
leaves-Other at = append-nil (leaves (item.Other at)) ∙ folded-Other leafing at

tops-all : (xs : List Item) → AllByRecursion IsTop xs → list_all (λ (s : Seat). s.top) (map seat xs) ≡ true
tops-all [] each = refl
tops-all (x ∷ xs) each = and-both (seat x).top (list_all (λ (s : Seat). s.top) (map seat xs)) each.0 (tops-all xs each.1)

pub top-Group : (g : group.Group) → AllByRecursion IsTop g.items → IsTop (item.Group g)
top-Group g each = ap (λ (s : Seat). s.top) (folded-Group seating g) ∙ tops-all g.items each

pub top-Passed : (rule : Passed) → IsTop (item.Passed rule)
top-Passed rule = ap (λ (s : Seat). s.top) (folded-Passed seating rule)

pub top-Other : (at : ℕ) → IsTop (item.Other at)
top-Other at = ap (λ (s : Seat). s.top) (folded-Other seating at)
