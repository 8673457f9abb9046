-- An item that is read is one of a target sheet where it is so with its places at 0, but for its declarations.
use Rattle.std.proofs.Common.{◌≡◌, ℕ, List, [], ◌∷◌, map, Bool, true, false, not, ◌&&◌, ◌||◌, IsTrue, refl, sym, ◌∙◌, ap, ap₂}
use Rattle.std.specs.List.{list_all, list_any}
use Rattle.std.proofs.lemmas.Bool.{and_from, and_parts, false≢true}
use Rattle.std.proofs.lemmas.List.Folds.{list_all-map}
use Rattle.selector_types.specs.Erased.{erased}
use Rattle.selector_types.specs.PartsWithin.{list_parts}
use Rattle.selector_types.specs.declared.selector.Selector.{Selector}
use Rattle.sheet_types.specs.BareItems.{bare_item, bare_items, bare_item-Plain, bare_item-Style, bare_item-Group, bare_item-Passed, bare_item-Other, bared, bared_rule}
use Rattle.sheet_types.specs.Conditions.{bare_condition}
use Rattle.sheet_types.specs.ItemFold.{Steps, folded, folded-Plain, folded-Style, folded-Group, folded-Passed, folded-Other}
use Rattle.sheet_types.specs.ItemInduction.{Each, by_items}
use Rattle.sheet_types.specs.declared.sheet.Declaration.{Declaration}
use Rattle.sheet_types.specs.declared.sheet.Group as group
use Rattle.sheet_types.specs.declared.sheet.GroupCondition.{GroupCondition}
use Rattle.sheet_types.specs.declared.sheet.GroupCondition.TheVariants.{Media, Supports}
use Rattle.sheet_types.specs.declared.sheet.Item.{Item}
use Rattle.sheet_types.specs.declared.sheet.Item as item
use Rattle.sheet_types.specs.declared.sheet.Passed.{Passed}
use Rattle.sheet_types.specs.declared.sheet.Style as style
use Rattle.css_rules.specs.PlainRules.{Plain, are_built, is_one_run, is_plain_condition, is_plain_item, is_plain_run, is_unled, none_waits, plainness}
use Rattle.css_rules.specs.Sheets.{is_unbuilt}
use Rattle.target_check.specs.Targets.{Age, age-Plain, age-Style, age-Group, age-Passed, aging, declares, has_some, is_old_condition, is_old_declaration, is_old_item, is_old_selector, is_run, young}

-- What an item is to older browsers that know each declaration in it.
abbrev knowing : Steps Age
knowing = record {
  plain = λ ds. record { run = true; declares = has_some ds; old = false };
  style = aging.style;
  group = aging.group;
  passed = aging.passed;
  other = aging.other;
}

-- the same of an item
abbrev pub known : Item → Age
known = folded knowing

-- declarations, in the block of a style rule
abbrev pub runs : Item → Bool
runs x = (known x).run

-- does it declare anything?
abbrev pub fills : Item → Bool
fills x = (known x).declares

-- an item of a sheet or of a group that they read
abbrev pub ages : Item → Bool
ages x = (known x).old

-- What each kind of item is to them.

any-map : {X Y : Type 0} (p : Y → Bool) (f : X → Y) (xs : List X) → list_any p (map f xs) ≡ list_any (λ x. p (f x)) xs
any-map p f [] = refl
any-map p f (x ∷ xs) = ap (λ (b : Bool). p (f x) || b) (any-map p f xs)

pub some-map : {X Y : Type 0} (f : X → Y) (xs : List X) → has_some (map f xs) ≡ has_some xs
some-map f [] = refl
some-map f (x ∷ xs) = refl

pub known-Plain : (ds : List Declaration) → known (item.Plain ds) ≡ record { run = true; declares = has_some ds; old = false }
known-Plain ds = folded-Plain knowing ds

pub known-Style : (s : style.Style) → known (item.Style s) ≡ record { run = false; declares = false; old = list_all is_old_selector s.selectors && (list_all runs s.items && list_any fills s.items) }
known-Style s =
    folded-Style knowing s
    ∙ ap₂ (λ (run fill : Bool). (let made : Age = record { run = false; declares = false; old = list_all is_old_selector s.selectors && (run && fill) } in made))
    (list_all-map (λ (a : Age). a.run) known s.items)
    (any-map (λ (a : Age). a.declares) known s.items)

pub known-Group : (g : group.Group) → known (item.Group g) ≡ record { run = false; declares = false; old = is_old_condition g.condition && (has_some g.items && list_all ages g.items) }
known-Group g =
    folded-Group knowing g
    ∙ ap₂ (λ (some old : Bool). (let made : Age = record { run = false; declares = false; old = is_old_condition g.condition && (some && old) } in made))
    (some-map known g.items)
    (list_all-map (λ (a : Age). a.old) known g.items)

pub known-Passed : (rule : Passed) → known (item.Passed rule) ≡ record { run = false; declares = false; old = true }
known-Passed rule = folded-Passed knowing rule

known-Other : (at : ℕ) → known (item.Other at) ≡ young
known-Other at = folded-Other knowing at

-- a condition with its places at 0 is old where it is so
pub condition-bare : (condition : GroupCondition) → is_old_condition (bare_condition condition) ≡ is_old_condition condition
condition-bare (Media list) = refl
condition-bare (Supports condition) = refl

-- what is made of items as they are read
abbrev plains : List Item → List Plain
plains xs = map (folded plainness) xs

-- Items that are read, from what they are with their places at 0.

-- what the lower crates ensure of selectors and of declarations
pub record BareLaws : Type 0 where
  pub built : (d : Declaration) → is_unbuilt d ≡ false → IsTrue (is_old_declaration d)
  pub bare : (ss : List Selector) → list_all is_old_selector (map erased ss) ≡ list_all is_old_selector ss

-- an item that is read: in the block of a style rule older browsers know it, it declares what it did, and at the top they read it
record IsReadOld (x : Item) : Type 0 where
  run : is_plain_run x ≡ true → is_run x ≡ true
  declared : fills (bare_item x) ≡ declares x
  old : is_plain_item x ≡ true → ages (bare_item x) ≡ true → is_old_item x ≡ true

-- Items one after another.

runs-read : (xs : List Item) → Each IsReadOld xs → is_one_run (plains xs) ≡ true → list_all is_run xs ≡ true
runs-read [] each e = refl
runs-read (x ∷ []) each e = (let first = each.0 in and_from (is_run x) true (first.run e) refl)
runs-read (x ∷ y ∷ xs) each e = absurd (false≢true e)

fills-read : (xs : List Item) → Each IsReadOld xs → list_any fills (bare_items xs) ≡ list_any declares xs
fills-read [] each = refl
fills-read (x ∷ xs) each = (let first = each.0 in ap₂ ◌||◌ first.declared (fills-read xs each.1))

tops-read : (xs : List Item) → Each IsReadOld xs → list_all (λ (made : Plain). made.top) (plains xs) ≡ true → list_all ages (bare_items xs) ≡ true → list_all is_old_item xs ≡ true
tops-read [] each e old = refl
tops-read (x ∷ xs) each e old =
    let first = each.0 in
    let plain = and_parts (is_plain_item x) (list_all (λ (made : Plain). made.top) (plains xs)) e in
    let bare = and_parts (ages (bare_item x)) (list_all ages (bare_items xs)) old in
    and_from (is_old_item x) (list_all is_old_item xs) (first.old plain.0 bare.0) (tops-read xs each.1 plain.1 bare.1)

module _ (laws : BareLaws) where
  unbuilt-false : (b : Bool) → not b ≡ true → b ≡ false
  unbuilt-false false e = refl
  unbuilt-false true e = absurd (false≢true e)

  declarations-read : (ds : List Declaration) → are_built ds ≡ true → list_all is_old_declaration ds ≡ true
  declarations-read [] e = refl
  declarations-read (d ∷ ds) e =
      let parts = and_parts (not (is_unbuilt d)) (are_built ds) e in
      and_from (is_old_declaration d) (list_all is_old_declaration ds) (laws.built d (unbuilt-false (is_unbuilt d) parts.0)) (declarations-read ds parts.1)

  -- Each kind of item.

  plain-read : (ds : List Declaration) → IsReadOld (item.Plain ds)
  plain-read ds =
      let same = folded-Plain plainness ds in
      record {
        run = λ e. ap (λ (a : Age). a.run) (age-Plain ds) ∙ declarations-read ds (sym (ap (λ (made : Plain). made.within) same) ∙ e);
        declared =
            ap fills (bare_item-Plain ds)
            ∙ ap (λ (a : Age). a.declares) (known-Plain (map bared ds))
            ∙ some-map bared ds
            ∙ sym (ap (λ (a : Age). a.declares) (age-Plain ds));
        old = λ e old. absurd (false≢true (sym (ap (λ (made : Plain). made.top) same) ∙ e));
      }

  style-read : (s : style.Style) → Each IsReadOld s.items → IsReadOld (item.Style s)
  style-read s each =
      let same = folded-Style plainness s in
      let bare : style.Style = record { selectors = map erased s.selectors; items = bare_items s.items; at = 0 } in
      let is_bare = ap known (bare_item-Style s) ∙ known-Style bare in
      record {
        run = λ e. absurd (false≢true (sym (ap (λ (made : Plain). made.within) same) ∙ e));
        declared = ap (λ (a : Age). a.declares) is_bare ∙ sym (ap (λ (a : Age). a.declares) (age-Style s));
        old = λ e old.
            let plain = and_parts (list_all is_unled s.selectors) (none_waits (list_parts s.selectors) && is_one_run (plains s.items)) (sym (ap (λ (made : Plain). made.top) same) ∙ e) in
            let run = and_parts (none_waits (list_parts s.selectors)) (is_one_run (plains s.items)) plain.1 in
            let parts = and_parts (list_all is_old_selector bare.selectors) (list_all runs bare.items && list_any fills bare.items) (sym (ap (λ (a : Age). a.old) is_bare) ∙ old) in
            let full = and_parts (list_all runs bare.items) (list_any fills bare.items) parts.1 in
            ap (λ (a : Age). a.old) (age-Style s)
            ∙ and_from (list_all is_old_selector s.selectors) (list_all is_run s.items && list_any declares s.items)
            (sym (laws.bare s.selectors) ∙ parts.0)
            (and_from (list_all is_run s.items) (list_any declares s.items) (runs-read s.items each run.1) (sym (fills-read s.items each) ∙ full.1));
      }

  group-read : (g : group.Group) → Each IsReadOld g.items → IsReadOld (item.Group g)
  group-read g each =
      let same = folded-Group plainness g in
      let bare : group.Group = record { condition = bare_condition g.condition; items = bare_items g.items; at = 0 } in
      let is_bare = ap known (bare_item-Group g) ∙ known-Group bare in
      record {
        run = λ e. absurd (false≢true (sym (ap (λ (made : Plain). made.within) same) ∙ e));
        declared = ap (λ (a : Age). a.declares) is_bare ∙ sym (ap (λ (a : Age). a.declares) (age-Group g));
        old = λ e old.
            let plain = and_parts (is_plain_condition g.condition) (list_all (λ (made : Plain). made.top) (plains g.items)) (sym (ap (λ (made : Plain). made.top) same) ∙ e) in
            let parts = and_parts (is_old_condition bare.condition) (has_some bare.items && list_all ages bare.items) (sym (ap (λ (a : Age). a.old) is_bare) ∙ old) in
            let full = and_parts (has_some bare.items) (list_all ages bare.items) parts.1 in
            ap (λ (a : Age). a.old) (age-Group g)
            ∙ and_from (is_old_condition g.condition) (has_some g.items && list_all is_old_item g.items)
            (sym (condition-bare g.condition) ∙ parts.0)
            (and_from (has_some g.items) (list_all is_old_item g.items) (sym (some-map bare_item g.items) ∙ full.0) (tops-read g.items each plain.1 full.1));
      }

  passed-read : (rule : Passed) → IsReadOld (item.Passed rule)
  passed-read rule =
      let is_bare = ap known (bare_item-Passed rule) ∙ known-Passed (bared_rule rule) in
      record {
        run = λ e. absurd (false≢true (sym (ap (λ (made : Plain). made.within) (folded-Passed plainness rule)) ∙ e));
        declared = ap (λ (a : Age). a.declares) is_bare ∙ sym (ap (λ (a : Age). a.declares) (age-Passed rule));
        old = λ e old. ap (λ (a : Age). a.old) (age-Passed rule);
      }

  other-read : (at : ℕ) → IsReadOld (item.Other at)
  other-read at =
      let is_bare = ap known (bare_item-Other at) ∙ known-Other 0 in
      record {
        run = λ e. absurd (false≢true (sym (ap (λ (made : Plain). made.within) (folded-Other plainness at)) ∙ e));
        declared = ap (λ (a : Age). a.declares) is_bare ∙ sym (ap (λ (a : Age). a.declares) (folded-Other aging at));
        old = λ e old. absurd (false≢true (sym (ap (λ (a : Age). a.old) is_bare) ∙ old));
      }

  item-read : (x : Item) → IsReadOld x
  item-read x = by_items IsReadOld (record { plain = plain-read; style = style-read; group = group-read; passed = passed-read; other = other-read }) x

  each-read : (xs : List Item) → Each IsReadOld xs
  each-read [] = tt
  each-read (x ∷ xs) = (item-read x, each-read xs)

  tops-plain : (xs : List Item) → list_all is_plain_item xs ≡ true → list_all (λ (made : Plain). made.top) (plains xs) ≡ true
  tops-plain xs e = list_all-map (λ (made : Plain). made.top) (folded plainness) xs ∙ e

  -- older browsers read items that are read, where it is so with their places at 0
  pub items-read : (xs : List Item) → list_all is_plain_item xs ≡ true → list_all ages (bare_items xs) ≡ true → list_all is_old_item xs ≡ true
  items-read xs plain old = tops-read xs (each-read xs) (tops-plain xs plain) old
