-- In items as they are read each range is one of a feature that takes a range.
use Rattle.std.proofs.Common.{◌≡◌, List, [], ◌∷◌, true, ◌&&◌, map, sym, ap, ◌∙◌, IsTrue, refl}
use Rattle.std.specs.List.{AllByRecursion, list_all}
use Rattle.std.proofs.lemmas.Bool.{and_from, false≢true}
use Rattle.selector_types.specs.PartsWithin.{list_parts}
use Rattle.media_spelling.specs.declared.condition.Query.{Query}
use Rattle.media_tree.specs.ReadableQueries.{are_readable_queries}
use Rattle.sheet_types.specs.declared.sheet.GroupCondition.{GroupCondition}
use Rattle.sheet_types.specs.declared.sheet.GroupCondition.TheVariants.{Media, Supports}
use Rattle.sheet_types.specs.declared.sheet.Item.{Item}
use Rattle.sheet_types.specs.ItemFold.{folded, folded-Plain, folded-Style, folded-Group, folded-Passed, folded-Other}
use Rattle.sheet_types.specs.ItemInduction.{Each, by_items}
use Rattle.css_rules.specs.PlainRules.{Plain, is_one_run, is_plain_condition, is_plain_item, is_plain_run, is_unled, none_waits, plainness}
use Rattle.media_clauses.specs.KnownRanges.{have_known_ranges}
use Rattle.media_clauses.proofs.BoolLemmas.{and-left, and-right}
use Rattle.media_lower.specs.MediaItems.{each-Group, each-Style, has_known_lists, tested, testing}

-- what is ensured of lists that are read
abbrev pub KnownLists : Type 0
KnownLists = (qs : List Query) → IsTrue (are_readable_queries qs) → IsTrue (have_known_ranges qs)

-- an item as it is read, in a block or at the top
record IsKnown (x : Item) : Type 0 where
  within : is_plain_run x ≡ true → has_known_lists x ≡ true
  top : is_plain_item x ≡ true → has_known_lists x ≡ true

-- what is made of items
abbrev plains : List Item → List Plain
plains xs = map (folded plainness) xs

run-known : (xs : List Item) → Each IsKnown xs → is_one_run (plains xs) ≡ true → list_all has_known_lists xs ≡ true
run-known [] each e = refl
run-known (x ∷ []) each e = (let known = each.0 in and_from (has_known_lists x) true (known.within e) refl)
run-known (x ∷ y ∷ xs) each e = absurd (false≢true e)

tops-known : (xs : List Item) → Each IsKnown xs → list_all (λ (made : Plain). made.top) (plains xs) ≡ true → list_all has_known_lists xs ≡ true
tops-known [] each e = refl
tops-known (x ∷ xs) each e =
    let more = list_all (λ (made : Plain). made.top) (plains xs) in
    let known = each.0 in
    and_from (has_known_lists x) (list_all has_known_lists xs) (known.top (and-left (is_plain_item x) more e)) (tops-known xs each.1 (and-right (is_plain_item x) more e))

condition-known : KnownLists → (condition : GroupCondition) → is_plain_condition condition ≡ true → tested have_known_ranges condition ≡ true
condition-known lists (Media queries) e = lists queries e
condition-known lists (Supports condition) e = refl

item-known : KnownLists → (x : Item) → IsKnown x
item-known lists x =
    by_items IsKnown (record {
      plain = λ ds. (let known = folded-Plain (testing have_known_ranges) ds in record { within = λ e. known; top = λ e. known });
      style = λ s each.
          let same = folded-Style plainness s in
          let unled = list_all is_unled s.selectors in
          let unwaiting = none_waits (list_parts s.selectors) in
          let run = is_one_run (plains s.items) in
          record {
            within = λ e. absurd (false≢true (sym (ap (λ (made : Plain). made.within) same) ∙ e));
            top = λ e.
                let both = and-right unled (unwaiting && run) (sym (ap (λ (made : Plain). made.top) same) ∙ e) in
                each-Style have_known_ranges s ∙ run-known s.items each (and-right unwaiting run both);
          };
      group = λ g each.
          let same = folded-Group plainness g in
          let plain = is_plain_condition g.condition in
          let tops = list_all (λ (made : Plain). made.top) (plains g.items) in
          record {
            within = λ e. absurd (false≢true (sym (ap (λ (made : Plain). made.within) same) ∙ e));
            top = λ e.
                let both = sym (ap (λ (made : Plain). made.top) same) ∙ e in
                each-Group have_known_ranges g
                ∙ and_from (tested have_known_ranges g.condition) (list_all has_known_lists g.items)
                (condition-known lists g.condition (and-left plain tops both))
                (tops-known g.items each (and-right plain tops both));
          };
      passed = λ rule. (let known = folded-Passed (testing have_known_ranges) rule in record { within = λ e. known; top = λ e. known });
      other = λ at. (let known = folded-Other (testing have_known_ranges) at in record { within = λ e. known; top = λ e. known });
    }) x

pub items-taken : KnownLists → (xs : List Item) → list_all is_plain_item xs ≡ true → AllByRecursion (λ x. IsTrue (has_known_lists x)) xs
items-taken lists [] e = tt
items-taken lists (x ∷ xs) e =
    let known = item-known lists x in
    (known.top (and-left (is_plain_item x) (list_all is_plain_item xs) e), items-taken lists xs (and-right (is_plain_item x) (list_all is_plain_item xs) e))
