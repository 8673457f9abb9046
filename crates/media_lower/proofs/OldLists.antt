-- In what items become each media list is one of a target sheet.
use Rattle.std.proofs.Common.{◌≡◌, ℕ, List, [], ◌∷◌, ◌++◌, Bool, true, ◌&&◌, flat_map, refl, ◌∙◌, ap, IsTrue}
use Rattle.std.specs.List.{list_all}
use Rattle.std.proofs.lemmas.List.Folds.{list_all-append}
use Rattle.media_spelling.specs.declared.condition.Query.{Query}
use Rattle.sheet_types.specs.declared.sheet.Group as group
use Rattle.sheet_types.specs.declared.sheet.GroupCondition.{GroupCondition}
use Rattle.sheet_types.specs.declared.sheet.GroupCondition.TheVariants.{Media, Supports}
use Rattle.sheet_types.specs.declared.sheet.Item.{Item}
use Rattle.sheet_types.specs.declared.sheet.Item as item
use Rattle.sheet_types.specs.declared.sheet.Style as style
use Rattle.sheet_types.specs.ItemFold.{folded-Plain, folded-Passed, folded-Other}
use Rattle.sheet_types.specs.ItemInduction.{Each, by_items}
use Rattle.media_clauses.specs.Lowered.{lowered}
use Rattle.target_check.specs.MediaTargets.{is_target_list}
use Rattle.media_clauses.proofs.BoolLemmas.{and-left, and-right, and-true, both}
use Rattle.media_lower.specs.MediaItems.{each-Group, each-Style, has_old_lists, in_groups, lowered_group, lowered_item, lowered-Plain, lowered-Style, lowered-Group, lowered-Passed, lowered-Other, testing}

-- what is ensured of lowered lists
abbrev pub OldLists : Type 0
OldLists = (list : List Query) → IsTrue (list_all is_target_list (lowered list))

abbrev AreOld : List Item → Type 0
AreOld xs = list_all has_old_lists xs ≡ true

-- an item alone
alone : (x : Item) → has_old_lists x ≡ true → AreOld (x ∷ [])
alone x old = and-true (has_old_lists x) ∙ old

groups-old : (at : ℕ) (lists : List (List Query)) (xs : List Item) → list_all is_target_list lists ≡ true → AreOld xs → AreOld (in_groups at lists xs)
groups-old at [] xs old fine = fine
groups-old at (list ∷ lists) xs old fine =
    let g : group.Group = record { condition = Media list; items = in_groups at lists xs; at = at } in
    let rest = list_all is_target_list lists in
    alone (item.Group g)
    (each-Group is_target_list g
    ∙ both (is_target_list list) (list_all has_old_lists (in_groups at lists xs)) true true (and-left (is_target_list list) rest old) (groups-old at lists xs (and-right (is_target_list list) rest old) fine))

group-old : OldLists → (condition : GroupCondition) (at : ℕ) (xs : List Item) → AreOld xs → AreOld (lowered_group condition at xs)
group-old lists (Media list) at xs fine = groups-old at (lowered list) xs (lists list) fine
group-old lists (Supports condition) at xs fine =
    let g : group.Group = record { condition = Supports condition; items = xs; at = at } in
    alone (item.Group g) (each-Group is_target_list g ∙ fine)

abbrev BecomesOld : Item → Type 0
BecomesOld x = AreOld (lowered_item x)

each-old : (xs : List Item) → Each BecomesOld xs → AreOld (flat_map lowered_item xs)
each-old [] each = refl
each-old (x ∷ xs) each =
    list_all-append has_old_lists (lowered_item x) (flat_map lowered_item xs)
    ∙ both (list_all has_old_lists (lowered_item x)) (list_all has_old_lists (flat_map lowered_item xs)) true true each.0 (each-old xs each.1)

pub becomes-old : OldLists → (x : Item) → BecomesOld x
becomes-old lists x =
    by_items BecomesOld (record {
      plain = λ ds. ap (list_all has_old_lists) (lowered-Plain ds) ∙ alone (item.Plain ds) (folded-Plain (testing is_target_list) ds);
      style = λ s each.
          let made : style.Style = record { selectors = s.selectors; items = flat_map lowered_item s.items; at = s.at } in
          ap (list_all has_old_lists) (lowered-Style s) ∙ alone (item.Style made) (each-Style is_target_list made ∙ each-old s.items each);
      group = λ g each.
          ap (list_all has_old_lists) (lowered-Group g) ∙ group-old lists g.condition g.at (flat_map lowered_item g.items) (each-old g.items each);
      passed = λ rule. ap (list_all has_old_lists) (lowered-Passed rule) ∙ alone (item.Passed rule) (folded-Passed (testing is_target_list) rule);
      other = λ at. ap (list_all has_old_lists) (lowered-Other at) ∙ alone (item.Other at) (folded-Other (testing is_target_list) at);
    }) x
