-- What items become where each media list is told by lists of a target sheet (this project's own; Media Queries 4, section 2.5).
use Rattle.std.specs.Prelude.{ℕ, List, [], ◌∷◌, flat_map, Bool, true, ◌&&◌, ◌≡◌}
use Rattle.std.specs.List.{list_all}
use Rattle.std.proofs.Common.{◌∙◌, ap}
use Rattle.std.proofs.lemmas.List.Folds.{flat_map-map, list_all-map}
use Rattle.media_spelling.specs.declared.condition.Query.{Query}
use Rattle.sheet_types.specs.declared.sheet.Declaration.{Declaration}
use Rattle.sheet_types.specs.declared.sheet.Group as group
use Rattle.sheet_types.specs.declared.sheet.GroupCondition.{GroupCondition}
use Rattle.sheet_types.specs.declared.sheet.GroupCondition.TheVariants.{Media, Supports}
use Rattle.sheet_types.specs.declared.sheet.Item.{Item}
use Rattle.sheet_types.specs.declared.sheet.Item as item
use Rattle.sheet_types.specs.declared.sheet.Passed.{Passed}
use Rattle.sheet_types.specs.declared.sheet.Style as style
use Rattle.sheet_types.specs.ItemFold.{Steps, folded, folded-Plain, folded-Style, folded-Group, folded-Passed, folded-Other}
use Rattle.media_clauses.specs.KnownRanges.{have_known_ranges}
use Rattle.media_clauses.specs.Lowered.{lowered}
use Rattle.target_check.specs.MediaTargets.{is_target_list}

-- What items become.

-- a group at this place with this media list and these items
abbrev pub in_group : ℕ → List Query → List Item → List Item
in_group at list items = item.Group (record { condition = Media list; items = items; at = at }) ∷ []

-- the items inside a group at this place for each of these media lists, the first outermost; the items alone where there is no list
abbrev pub in_groups : ℕ → List (List Query) → List Item → List Item
in_groups at [] items = items
in_groups at (list ∷ lists) items = in_group at list (in_groups at lists items)

-- a group with a media list becomes its items inside groups with the lists of the lowered form; a group with a supports condition stays
abbrev pub lowered_group : GroupCondition → ℕ → List Item → List Item
lowered_group (Media list) at items = in_groups at (lowered list) items
lowered_group (Supports condition) at items = item.Group (record { condition = Supports condition; items = items; at = at }) ∷ []

-- Style rules and groups keep their place, with what their items become; all else stays.
abbrev pub lowering : Steps (List Item)
lowering = record {
  plain = λ ds. item.Plain ds ∷ [];
  style = λ selectors at inner. item.Style (record { selectors = selectors; items = flat_map (λ (items : List Item). items) inner; at = at }) ∷ [];
  group = λ condition at inner. lowered_group condition at (flat_map (λ (items : List Item). items) inner);
  passed = λ rule. item.Passed rule ∷ [];
  other = λ at. item.Other at ∷ [];
}

-- what an item becomes
abbrev pub lowered_item : Item → List Item
lowered_item = folded lowering

-- Which media lists stand in an item.

-- does the media list of a group pass this test, where it has one?
abbrev pub tested : (List Query → Bool) → GroupCondition → Bool
tested test (Media list) = test list
tested test (Supports condition) = true

abbrev pub testing : (List Query → Bool) → Steps Bool
testing test = record {
  plain = λ ds. true;
  style = λ selectors at inner. list_all (λ b. b) inner;
  group = λ condition at inner. tested test condition && list_all (λ b. b) inner;
  passed = λ rule. true;
  other = λ at. true;
}

-- does each media list in the item pass this test, at any depth?
abbrev pub each_list : (List Query → Bool) → Item → Bool
each_list test = folded (testing test)

-- is each range in its media lists one of a feature that takes a range?
abbrev pub has_known_lists : Item → Bool
has_known_lists = each_list have_known_ranges

-- is each of its media lists one of a target sheet?
abbrev pub has_old_lists : Item → Bool
has_old_lists = each_list is_target_list

-- Equations.

pub lowered-Plain : (ds : List Declaration) → lowered_item (item.Plain ds) ≡ item.Plain ds ∷ []
lowered-Plain ds = folded-Plain lowering ds

pub lowered-Style : (s : style.Style) → lowered_item (item.Style s) ≡ item.Style (record { selectors = s.selectors; items = flat_map lowered_item s.items; at = s.at }) ∷ []
lowered-Style s =
    folded-Style lowering s
    ∙ ap (λ (items : List Item). item.Style (record { selectors = s.selectors; items = items; at = s.at }) ∷ []) (flat_map-map (λ (items : List Item). items) lowered_item s.items)

pub lowered-Group : (g : group.Group) → lowered_item (item.Group g) ≡ lowered_group g.condition g.at (flat_map lowered_item g.items)
lowered-Group g = folded-Group lowering g ∙ ap (lowered_group g.condition g.at) (flat_map-map (λ (items : List Item). items) lowered_item g.items)

pub lowered-Passed : (rule : Passed) → lowered_item (item.Passed rule) ≡ item.Passed rule ∷ []
lowered-Passed rule = folded-Passed lowering rule

pub lowered-Other : (at : ℕ) → lowered_item (item.Other at) ≡ item.Other at ∷ []
lowered-Other at = folded-Other lowering at

module _ (test : List Query → Bool) where
  pub each-Style : (s : style.Style) → each_list test (item.Style s) ≡ list_all (each_list test) s.items
  each-Style s = folded-Style (testing test) s ∙ list_all-map (λ (b : Bool). b) (each_list test) s.items

  pub each-Group : (g : group.Group) → each_list test (item.Group g) ≡ (tested test g.condition && list_all (each_list test) g.items)
  each-Group g = folded-Group (testing test) g ∙ ap (λ (b : Bool). tested test g.condition && b) (list_all-map (λ (b : Bool). b) (each_list test) g.items)
