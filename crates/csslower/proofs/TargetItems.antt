-- What the items of a sheet without findings become, places aside and without what declares nothing, is read by older browsers, but for its declarations.
use Rattle.std.proofs.Common.{◌≡◌, ℕ, List, [], ◌∷◌, ◌++◌, map, flat_map, Bool, true, ◌&&◌, ◌||◌, IsTrue, refl, sym, ◌∙◌, ap}
use Rattle.std.specs.List.{list_all, list_any}
use Rattle.std.proofs.lemmas.Bool.{and_from, and_parts, false≢true}
use Rattle.std.proofs.lemmas.Grind.{flat_map-append}
use Rattle.std.proofs.lemmas.List.{append-nil, map-append}
use Rattle.std.proofs.lemmas.List.Folds.{list_all-append, list_all-map}
use Rattle.selector_types.specs.Erased.{erased}
use Rattle.selector_types.specs.PartsWithin.{list_parts}
use Rattle.selector_types.specs.declared.selector.Selector.{Selector}
use Rattle.sheet_types.specs.BareItems.{bare_item, bare_items, bare_item-Plain, bare_item-Style, bare_item-Group, bare_item-Passed, bare_item-Other, bared, bared_rule, filled_item, filled_items, filled_item-Plain, filled_item-Style, filled_item-Group, filled_item-Passed, filled_item-Other, group_round, rule_round}
use Rattle.sheet_types.specs.Conditions.{bare_condition}
use Rattle.sheet_types.specs.ItemFold.{folded, folded-Plain, folded-Style, folded-Group, folded-Passed, folded-Other}
use Rattle.sheet_types.specs.ItemInduction.{Each, by_items}
use Rattle.sheet_types.specs.Runs.{run_of}
use Rattle.sheet_types.specs.declared.sheet.Declaration.{Declaration}
use Rattle.sheet_types.specs.declared.sheet.Group as group
use Rattle.sheet_types.specs.declared.sheet.GroupCondition.{GroupCondition}
use Rattle.sheet_types.specs.declared.sheet.GroupCondition.TheVariants.{Media, Supports}
use Rattle.sheet_types.specs.declared.sheet.Item.{Item}
use Rattle.sheet_types.specs.declared.sheet.Item as item
use Rattle.sheet_types.specs.declared.sheet.Passed.{Passed}
use Rattle.sheet_types.specs.declared.sheet.Style as style
use Rattle.css_rules.specs.PlainRules.{Plain, is_one_run, is_plain_condition, is_plain_item, is_plain_run, is_unled, none_waits, plainness}
use Rattle.findings.specs.Constructs.{condition_findings, found-Group, found-Style, item_findings, items_findings, list_findings}
use Rattle.media_lower.specs.MediaItems.{each-Group, has_old_lists, in_groups, lowered_group, lowered_item, lowered-Plain, lowered-Style, lowered-Group, lowered-Passed, lowered-Other}
use Rattle.target_check.specs.MediaTargets.{is_target_list}
use Rattle.target_check.specs.Targets.{Age, is_old_condition, is_old_selector}
use Rattle.csslower.proofs.TargetBare.{ages, condition-bare, fills, known-Plain, known-Style, known-Group, known-Passed, runs}

-- Lists.

front-none : {X : Type 0} (xs ys : List X) → xs ++ ys ≡ [] → xs ≡ []
front-none [] ys none = refl
front-none (x ∷ xs) ys none = absurd (cc none)

back-none : {X : Type 0} (xs ys : List X) → xs ++ ys ≡ [] → ys ≡ []
back-none [] ys none = none
back-none (x ∷ xs) ys none = absurd (cc none)

both-all : {X : Type 0} (test : X → Bool) (xs ys : List X) → list_all test xs ≡ true → list_all test ys ≡ true → list_all test (xs ++ ys) ≡ true
both-all test xs ys h k = list_all-append test xs ys ∙ and_from (list_all test xs) (list_all test ys) h k

-- Each list that a media list becomes is one of a target sheet, since each in the items of a group with it is.

lists-old : (lists : _) → list_all has_old_lists (in_groups 0 lists []) ≡ true → list_all is_target_list lists ≡ true
lists-old [] e = refl
lists-old (list ∷ lists) e =
    let g : group.Group = record { condition = Media list; items = in_groups 0 lists []; at = 0 } in
    let here = and_parts (has_old_lists (item.Group g)) true e in
    let parts = and_parts (is_target_list list) (list_all has_old_lists g.items) (sym (each-Group is_target_list g) ∙ here.0) in
    and_from (is_target_list list) (list_all is_target_list lists) parts.0 (lists-old lists parts.1)

-- Items as they are shown: places aside, and without what declares nothing.

abbrev pub shown : List Item → List Item
shown xs = filled_items (bare_items xs)

shown-append : (xs ys : List Item) → shown (xs ++ ys) ≡ shown xs ++ shown ys
shown-append xs ys = ap filled_items (map-append bare_item xs ys) ∙ flat_map-append filled_item (bare_items xs) (bare_items ys)

shown-alone : (x : Item) → shown (x ∷ []) ≡ filled_item (bare_item x)
shown-alone x = append-nil (filled_item (bare_item x))

shown-Plain : (ds : List Declaration) → shown (item.Plain ds ∷ []) ≡ run_of (map bared ds)
shown-Plain ds = shown-alone (item.Plain ds) ∙ ap filled_item (bare_item-Plain ds) ∙ filled_item-Plain (map bared ds)

shown-Style : (s : style.Style) → shown (item.Style s ∷ []) ≡ rule_round (map erased s.selectors) 0 (shown s.items)
shown-Style s =
    let bare : style.Style = record { selectors = map erased s.selectors; items = bare_items s.items; at = 0 } in
    shown-alone (item.Style s) ∙ ap filled_item (bare_item-Style s) ∙ filled_item-Style bare

shown-Group : (g : group.Group) → shown (item.Group g ∷ []) ≡ group_round (bare_condition g.condition) 0 (shown g.items)
shown-Group g =
    let bare : group.Group = record { condition = bare_condition g.condition; items = bare_items g.items; at = 0 } in
    shown-alone (item.Group g) ∙ ap filled_item (bare_item-Group g) ∙ filled_item-Group bare

shown-Passed : (rule : Passed) → shown (item.Passed rule ∷ []) ≡ item.Passed (bared_rule rule) ∷ []
shown-Passed rule = shown-alone (item.Passed rule) ∙ ap filled_item (bare_item-Passed rule) ∙ filled_item-Passed (bared_rule rule)

shown-Other : (at : ℕ) → shown (item.Other at ∷ []) ≡ []
shown-Other at = shown-alone (item.Other at) ∙ ap filled_item (bare_item-Other at) ∙ filled_item-Other 0

-- What is shown is old.

-- declarations of which there are some
abbrev is_filled_run : Item → Bool
is_filled_run x = runs x && fills x

abbrev AreRuns : List Item → Type 0
AreRuns xs = list_all is_filled_run xs ≡ true

abbrev AreOld : List Item → Type 0
AreOld xs = list_all ages xs ≡ true

runs-run : (xs : List Item) → AreRuns xs → list_all runs xs ≡ true
runs-run [] e = refl
runs-run (x ∷ xs) e =
    let parts = and_parts (is_filled_run x) (list_all is_filled_run xs) e in
    let first = and_parts (runs x) (fills x) parts.0 in
    and_from (runs x) (list_all runs xs) first.0 (runs-run xs parts.1)

first-fills : (x : Item) (xs : List Item) → AreRuns (x ∷ xs) → list_any fills (x ∷ xs) ≡ true
first-fills x xs e =
    let parts = and_parts (is_filled_run x) (list_all is_filled_run xs) e in
    let first = and_parts (runs x) (fills x) parts.0 in
    ap (λ (b : Bool). b || list_any fills xs) first.1

run-old : (ds : List Declaration) → AreRuns (run_of ds)
run-old [] = refl
run-old (d ∷ ds) =
    let run = item.Plain (d ∷ ds) in
    and_from (is_filled_run run) true
    (and_from (runs run) (fills run) (ap (λ (a : Age). a.run) (known-Plain (d ∷ ds))) (ap (λ (a : Age). a.declares) (known-Plain (d ∷ ds))))
    refl

rule-old : (ss : List Selector) (xs : List Item) → list_all is_old_selector ss ≡ true → AreRuns xs → AreOld (rule_round ss 0 xs)
rule-old ss [] old e = refl
rule-old ss (x ∷ xs) old e =
    let s : style.Style = record { selectors = ss; items = x ∷ xs; at = 0 } in
    and_from (ages (item.Style s)) true
    (ap (λ (a : Age). a.old) (known-Style s)
    ∙ and_from (list_all is_old_selector ss) (list_all runs (x ∷ xs) && list_any fills (x ∷ xs)) old
    (and_from (list_all runs (x ∷ xs)) (list_any fills (x ∷ xs)) (runs-run (x ∷ xs) e) (first-fills x xs e)))
    refl

group-old : (condition : GroupCondition) (xs : List Item) → is_old_condition condition ≡ true → AreOld xs → AreOld (group_round condition 0 xs)
group-old condition [] old e = refl
group-old condition (x ∷ xs) old e =
    let g : group.Group = record { condition = condition; items = x ∷ xs; at = 0 } in
    and_from (ages (item.Group g)) true
    (ap (λ (a : Age). a.old) (known-Group g)
    ∙ and_from (is_old_condition condition) (list_all ages (x ∷ xs)) old e)
    refl

-- a group with an old condition, round what is shown old
around-old : (g : group.Group) → is_old_condition g.condition ≡ true → AreOld (shown g.items) → AreOld (shown (item.Group g ∷ []))
around-old g old inner =
    ap (list_all ages) (shown-Group g)
    ∙ group-old (bare_condition g.condition) (shown g.items) (condition-bare g.condition ∙ old) inner

groups-old : (at : ℕ) (lists : _) (xs : List Item) → list_all is_target_list lists ≡ true → AreOld (shown xs) → AreOld (shown (in_groups at lists xs))
groups-old at [] xs old inner = inner
groups-old at (list ∷ lists) xs old inner =
    let parts = and_parts (is_target_list list) (list_all is_target_list lists) old in
    around-old (record { condition = Media list; items = in_groups at lists xs; at = at }) parts.0 (groups-old at lists xs parts.1 inner)

-- what the lower crates ensure of selectors and of media lists
pub record ItemLaws : Type 0 where
  pub old : (ss : List Selector) → list_findings 0 ss ≡ [] → IsTrue (list_all is_unled ss) → IsTrue (none_waits (list_parts ss)) → IsTrue (list_all is_old_selector ss)
  pub lists : (x : Item) → IsTrue (list_all has_old_lists (lowered_item x))
  pub bare : (ss : List Selector) → list_all is_old_selector (map erased ss) ≡ list_all is_old_selector ss

-- what an item that is read becomes is shown old, in the block of a style rule and at the top
record BecomesOld (x : Item) : Type 0 where
  run : is_plain_run x ≡ true → AreRuns (shown (lowered_item x))
  old : is_plain_item x ≡ true → item_findings 0 x ≡ [] → AreOld (shown (lowered_item x))

-- what is made of items as they are read
abbrev plains : List Item → List Plain
plains xs = map (folded plainness) xs

-- Items one after another.

runs-become : (xs : List Item) → Each BecomesOld xs → is_one_run (plains xs) ≡ true → AreRuns (shown (flat_map lowered_item xs))
runs-become [] each e = refl
runs-become (x ∷ []) each e =
    let first = each.0 in
    ap (λ (ys : List Item). list_all is_filled_run (shown ys)) (append-nil (lowered_item x)) ∙ first.run e
runs-become (x ∷ y ∷ xs) each e = absurd (false≢true e)

tops-become : (xs : List Item) → Each BecomesOld xs → list_all (λ (made : Plain). made.top) (plains xs) ≡ true → items_findings 0 xs ≡ [] → AreOld (shown (flat_map lowered_item xs))
tops-become [] each e none = refl
tops-become (x ∷ xs) each e none =
    let first = each.0 in
    let parts = and_parts (is_plain_item x) (list_all (λ (made : Plain). made.top) (plains xs)) e in
    ap (list_all ages) (shown-append (lowered_item x) (flat_map lowered_item xs))
    ∙ both-all ages (shown (lowered_item x)) (shown (flat_map lowered_item xs))
    (first.old parts.0 (front-none (item_findings 0 x) (items_findings 0 xs) none))
    (tops-become xs each.1 parts.1 (back-none (item_findings 0 x) (items_findings 0 xs) none))

module _ (laws : ItemLaws) where
  -- a group becomes its items inside groups with the lists that its media list becomes, or stays
  condition-becomes : (condition : GroupCondition) (at : ℕ) (xs : List Item) → AreOld (shown xs) → AreOld (shown (lowered_group condition at xs))
  condition-becomes (Media list) at xs inner =
      let g : group.Group = record { condition = Media list; items = []; at = 0 } in
      groups-old at _ xs (lists-old _ (sym (ap (list_all has_old_lists) (lowered-Group g)) ∙ laws.lists (item.Group g))) inner
  condition-becomes (Supports condition) at xs inner = around-old (record { condition = Supports condition; items = xs; at = at }) refl inner

  -- Each kind of item.

  plain-becomes : (ds : List Declaration) → BecomesOld (item.Plain ds)
  plain-becomes ds = record {
    run = λ e. ap (λ (xs : List Item). list_all is_filled_run (shown xs)) (lowered-Plain ds) ∙ ap (list_all is_filled_run) (shown-Plain ds) ∙ run-old (map bared ds);
    old = λ e none. absurd (false≢true (sym (ap (λ (made : Plain). made.top) (folded-Plain plainness ds)) ∙ e));
  }

  style-becomes : (s : style.Style) → Each BecomesOld s.items → BecomesOld (item.Style s)
  style-becomes s each =
      let same = folded-Style plainness s in
      let made : style.Style = record { selectors = s.selectors; items = flat_map lowered_item s.items; at = s.at } in
      record {
        run = λ e. absurd (false≢true (sym (ap (λ (made : Plain). made.within) same) ∙ e));
        old = λ e none.
            let plain = and_parts (list_all is_unled s.selectors) (none_waits (list_parts s.selectors) && is_one_run (plains s.items)) (sym (ap (λ (made : Plain). made.top) same) ∙ e) in
            let inner = and_parts (none_waits (list_parts s.selectors)) (is_one_run (plains s.items)) plain.1 in
            let bare = front-none (list_findings 0 s.selectors) (items_findings 0 s.items) (sym (found-Style 0 s) ∙ none) in
            ap (λ (xs : List Item). list_all ages (shown xs)) (lowered-Style s)
            ∙ ap (list_all ages) (shown-Style made)
            ∙ rule-old (map erased s.selectors) (shown made.items) (laws.bare s.selectors ∙ laws.old s.selectors bare plain.0 inner.0) (runs-become s.items each inner.1);
      }

  group-becomes : (g : group.Group) → Each BecomesOld g.items → BecomesOld (item.Group g)
  group-becomes g each =
      let same = folded-Group plainness g in
      record {
        run = λ e. absurd (false≢true (sym (ap (λ (made : Plain). made.within) same) ∙ e));
        old = λ e none.
            let plain = and_parts (is_plain_condition g.condition) (list_all (λ (made : Plain). made.top) (plains g.items)) (sym (ap (λ (made : Plain). made.top) same) ∙ e) in
            let inner = back-none (condition_findings 0 g.at g.condition) (items_findings 0 g.items) (sym (found-Group 0 g) ∙ none) in
            ap (λ (xs : List Item). list_all ages (shown xs)) (lowered-Group g)
            ∙ condition-becomes g.condition g.at (flat_map lowered_item g.items) (tops-become g.items each plain.1 inner);
      }

  passed-becomes : (rule : Passed) → BecomesOld (item.Passed rule)
  passed-becomes rule = record {
    run = λ e. absurd (false≢true (sym (ap (λ (made : Plain). made.within) (folded-Passed plainness rule)) ∙ e));
    old = λ e none.
        ap (λ (xs : List Item). list_all ages (shown xs)) (lowered-Passed rule)
        ∙ ap (list_all ages) (shown-Passed rule)
        ∙ and_from (ages (item.Passed (bared_rule rule))) true (ap (λ (a : Age). a.old) (known-Passed (bared_rule rule))) refl;
  }

  other-becomes : (at : ℕ) → BecomesOld (item.Other at)
  other-becomes at = record {
    run = λ e. absurd (false≢true (sym (ap (λ (made : Plain). made.within) (folded-Other plainness at)) ∙ e));
    old = λ e none. ap (λ (xs : List Item). list_all ages (shown xs)) (lowered-Other at) ∙ ap (list_all ages) (shown-Other at);
  }

  item-becomes : (x : Item) → BecomesOld x
  item-becomes x = by_items BecomesOld (record { plain = plain-becomes; style = style-becomes; group = group-becomes; passed = passed-becomes; other = other-becomes }) x

  each-becomes : (xs : List Item) → Each BecomesOld xs
  each-becomes [] = tt
  each-becomes (x ∷ xs) = (item-becomes x, each-becomes xs)

  -- what items without findings become is shown old
  pub items-become : (xs : List Item) → list_all is_plain_item xs ≡ true → items_findings 0 xs ≡ [] → list_all ages (shown (flat_map lowered_item xs)) ≡ true
  items-become xs plain none = tops-become xs (each-becomes xs) (list_all-map (λ (made : Plain). made.top) (folded plainness) xs ∙ plain) none
