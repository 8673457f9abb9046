-- Items that may stand at the top of a sheet or of a group: style rules that are empty or have one run of declarations, groups of such items, rules that are passed on, and other at-rules.
use Rattle.std.proofs.Common.{◌≡◌, ℕ, List, [], ◌∷◌, ◌++◌, map, flat_map, true, refl, sym, ◌∙◌, ap, subst, inl, inr, ◌⊎◌, codes}
use Rattle.std.specs.List.{AllByRecursion, list_all}
use Rattle.std.proofs.lemmas.Bool.{and_parts}
use Rattle.std.proofs.lemmas.List.{append-nil}
use Rattle.std.proofs.lemmas.List.Folds.{flat_map-map}
use Rattle.css_tokens.specs.NameText.{name_text}
use Rattle.css_tokens.specs.declared.component.Component.{Component}
use Rattle.selector_types.specs.Erased.{erased}
use Rattle.selector_types.specs.declared.selector.Selector.{Selector}
use Rattle.selector_types.specs.Spelling.{list_spelling, list_text}
use Rattle.sheet_types.specs.declared.sheet.Declaration.{Declaration}
use Rattle.sheet_types.specs.declared.sheet.Group as group
use Rattle.sheet_types.specs.declared.sheet.GroupCondition.{GroupCondition}
use Rattle.sheet_types.specs.declared.sheet.Item.{Item}
use Rattle.sheet_types.specs.declared.sheet.Item as item
use Rattle.sheet_types.specs.declared.sheet.Passed.{Passed}
use Rattle.sheet_types.specs.declared.sheet.Style as style
use Rattle.sheet_types.specs.BareItems.{bared, bared_rule, bare_item, bare_items, bare_item-Plain, bare_item-Style, bare_item-Group, bare_item-Passed, bare_item-Other, filled_item, filled_items, filled_item-Plain, filled_item-Style, filled_item-Group, filled_item-Passed, filled_item-Other, group_round, rule_round}
use Rattle.sheet_types.specs.Conditions.{bare_condition}
use Rattle.sheet_types.specs.ItemFold.{folded-Plain, folded-Style, folded-Group, folded-Passed, folded-Other}
use Rattle.sheet_types.specs.ItemInduction.{Each, by_items}
use Rattle.sheet_types.specs.Leaves.{Seat, is_lone, seating, seat, IsTop, Leaf, OfDeclaration, OfList, OfCondition, OfPassed, leafing, leaves, all_leaves, rule_leaves, group_leaves}
use Rattle.sheet_types.specs.Runs.{run_of}
use Rattle.sheet_types.specs.SheetAgain.{ItemAgain, line_feed, block_again, braces, braced_again, condition_again, declarations_again, either_way_again, group_again, item_again, items_again, passed_again, spelled_item, spelling_again}
use Rattle.sheet_types.specs.SheetTexts.{ItemText, block_text, braced_text, condition_text, declarations_text, group_text, importance_text, items_text, more_declarations, passed_text, printed_item, printed_item-Plain, printed_item-Style, printed_item-Group, printed_item-Passed, printed_item-Other, printed_value, rule_text}

pub each-left : {X : Type 0} (P : X → Type 0) (xs ys : List X) → AllByRecursion P (xs ++ ys) → AllByRecursion P xs
each-left P [] ys each = tt
each-left P (x ∷ xs) ys each = (each.0, each-left P xs ys each.1)

pub each-right : {X : Type 0} (P : X → Type 0) (xs ys : List X) → AllByRecursion P (xs ++ ys) → AllByRecursion P ys
each-right P [] ys each = each
each-right P (x ∷ xs) ys each = each-right P xs ys each.1

-- the rule has one run of declarations, and nothing else
pub record IsRun (s : style.Style) : Type 0 where
  pub first : Declaration
  pub more : List Declaration
  pub is : s.items ≡ item.Plain (first ∷ more) ∷ []

-- an item that may stand alone in a block is declarations
record IsFilled (x : Item) : Type 0 where
  first : Declaration
  more : List Declaration
  is : x ≡ item.Plain (first ∷ more)

abbrev Filled : Item → Type 0
Filled x = (seat x).alone ≡ true → IsFilled x

alone-filled : (x : Item) → Filled x
alone-filled x =
    by_items Filled (record {
      plain = plain;
      style = λ s each e. absurd (cc (e, folded-Style seating s));
      group = λ g each e. absurd (cc (e, folded-Group seating g));
      passed = λ rule e. absurd (cc (e, folded-Passed seating rule));
      other = λ at e. absurd (cc (e, folded-Other seating at));
    }) x
  where
    plain : (ds : List Declaration) → Filled (item.Plain ds)
    plain [] e = absurd (cc (e, folded-Plain seating []))
    plain (d ∷ ds) e = record { first = d; more = ds; is = refl }

-- what may stand in a rule at the top
pub lone-items : (s : style.Style) → is_lone (map seat s.items) ≡ true → (s.items ≡ []) ⊎ IsRun s
lone-items s e = at s.items refl e
  where
    at : (xs : List Item) → s.items ≡ xs → is_lone (map seat xs) ≡ true → (s.items ≡ []) ⊎ IsRun s
    at [] is lone = inl is
    at (x ∷ []) is lone =
        let filled = alone-filled x lone in
        inr (record { first = filled.first; more = filled.more; is = is ∙ ap (λ (y : Item). y ∷ []) filled.is })
    at (x ∷ y ∷ xs) is lone = absurd (cc lone)

-- the leaves of what stands in a rule
run-of-leaves : (ds : List Declaration) → flat_map (λ (ls : List Leaf). ls) (map leaves (run_of ds)) ≡ map OfDeclaration ds
run-of-leaves [] = refl
run-of-leaves (d ∷ ds) = append-nil (leaves (item.Plain (d ∷ ds))) ∙ folded-Plain leafing (d ∷ ds)

rule-of-leaves : (s : style.Style) (ds : List Declaration) → s.items ≡ run_of ds → leaves (item.Style s) ≡ rule_leaves s.selectors (map OfDeclaration ds)
rule-of-leaves s ds is =
    folded-Style leafing s
    ∙ ap (λ (xs : List Item). rule_leaves s.selectors (flat_map (λ (ls : List Leaf). ls) (map leaves xs))) is
    ∙ ap (rule_leaves s.selectors) (run-of-leaves ds)

pub only-leaves : (s : style.Style) (ds : List Declaration) → s.items ≡ run_of ds → all_leaves (item.Style s ∷ []) ≡ rule_leaves s.selectors (map OfDeclaration ds)
only-leaves s ds is = append-nil (leaves (item.Style s)) ∙ rule-of-leaves s ds is

-- a rule with one run of declarations, or none, may stand at the top
pub rule-top : (s : style.Style) (ds : List Declaration) → s.items ≡ run_of ds → IsTop (item.Style s)
rule-top s ds is = ap (λ (t : Seat). t.top) (folded-Style seating s) ∙ ap (λ (xs : List Item). is_lone (map seat xs)) is ∙ lone ds
  where
    lone : (ds : List Declaration) → is_lone (map seat (run_of ds)) ≡ true
    lone [] = refl
    lone (d ∷ ds) = ap (λ (t : Seat). t.alone) (folded-Plain seating (d ∷ ds))

-- what holds of the list and of each declaration holds of the leaves of a rule
pub leaves-hold : (Fine : Leaf → Type 0) (list : List Selector) (ds : List Declaration) → Fine (OfList list) → AllByRecursion (λ d. Fine (OfDeclaration d)) ds → AllByRecursion Fine (rule_leaves list (map OfDeclaration ds))
leaves-hold Fine list [] fine each = tt
leaves-hold Fine list (d ∷ ds) fine each = (fine, each-of (d ∷ ds) each)
  where
    each-of : (ds : List Declaration) → AllByRecursion (λ d. Fine (OfDeclaration d)) ds → AllByRecursion Fine (map OfDeclaration ds)
    each-of [] each = tt
    each-of (d ∷ ds) each = (each.0, each-of ds each.1)

of-leaves : (Fine : Leaf → Type 0) (ds : List Declaration) → AllByRecursion Fine (map OfDeclaration ds) → AllByRecursion (λ d. Fine (OfDeclaration d)) ds
of-leaves Fine [] each = tt
of-leaves Fine (d ∷ ds) each = (each.0, of-leaves Fine ds each.1)

-- How rules are printed.

spelled-Style : (s : style.Style) → spelled_item (item.Style s) ≡ either_way_again (braced_again (list_spelling s.selectors) (block_again (map spelled_item s.items)))
spelled-Style s = folded-Style spelling_again s

again-Style : (s : style.Style) → item_again (item.Style s) ≡ braced_again (list_spelling s.selectors) (block_again (map spelled_item s.items))
again-Style s = ap (λ (a : ItemAgain). a.among) (spelled-Style s)

pub again-empty : (s : style.Style) → s.items ≡ [] → item_again (item.Style s) ≡ []
again-empty s none = again-Style s ∙ ap (λ (xs : List Item). braced_again (list_spelling s.selectors) (block_again (map spelled_item xs))) none

pub again-run : (s : style.Style) (run : IsRun s) → item_again (item.Style s) ≡ list_spelling s.selectors ++ braces (declarations_again (run.first ∷ run.more)) ∷ line_feed ∷ []
again-run s run =
    again-Style s
    ∙ ap (λ (xs : List Item). braced_again (list_spelling s.selectors) (block_again (map spelled_item xs))) run.is
    ∙ ap (λ (a : ItemAgain). braced_again (list_spelling s.selectors) a.alone) (folded-Plain spelling_again (run.first ∷ run.more))

pub text-empty : (s : style.Style) → s.items ≡ [] → (printed_item (item.Style s)).among ≡ []
text-empty s none = ap (λ (t : ItemText). t.among) (printed_item-Style s) ∙ ap (λ (xs : List Item). rule_text s.selectors (block_text (map printed_item xs))) none

-- a block that prints something
rule-some : (list : List Selector) (name value more : List ℕ) → rule_text list ((name ++ (codes ":" ++ value)) ++ more) ≡ braced_text list ((name ++ (codes ":" ++ value)) ++ more)
rule-some list [] value more = refl
rule-some list (c ∷ name) value more = refl

pub text-run : (s : style.Style) (run : IsRun s) → (printed_item (item.Style s)).among ≡ braced_text s.selectors (declarations_text (run.first ∷ run.more))
text-run s run =
    let d = run.first in
    ap (λ (t : ItemText). t.among) (printed_item-Style s)
    ∙ ap (λ (xs : List Item). rule_text s.selectors (block_text (map printed_item xs))) run.is
    ∙ ap (λ (t : ItemText). rule_text s.selectors t.alone) (printed_item-Plain (d ∷ run.more))
    ∙ rule-some s.selectors (name_text d.name) (printed_value d.value ++ importance_text d.important) (more_declarations run.more)

-- What is left of rules without those that declare nothing.

pub filled-empty : (s : style.Style) → s.items ≡ [] → filled_item (item.Style s) ≡ []
filled-empty s none = filled_item-Style s ∙ ap (λ (xs : List Item). rule_round s.selectors s.at (filled_items xs)) none

pub filled-run : (s : style.Style) (run : IsRun s) → filled_item (item.Style s) ≡ item.Style (record { selectors = s.selectors; items = item.Plain (run.first ∷ run.more) ∷ []; at = s.at }) ∷ []
filled-run s run =
    filled_item-Style s
    ∙ ap (λ (xs : List Item). rule_round s.selectors s.at (filled_items xs)) run.is
    ∙ ap (rule_round s.selectors s.at) (append-nil (filled_item (item.Plain (run.first ∷ run.more))) ∙ filled_item-Plain (run.first ∷ run.more))

-- What is left of printed rules, places aside.

abbrev bare_style : style.Style → style.Style
bare_style s = record { selectors = map erased s.selectors; items = bare_items s.items; at = 0 }

bare-empty : (s : style.Style) → s.items ≡ [] → filled_item (bare_item (item.Style s)) ≡ []
bare-empty s none = ap filled_item (bare_item-Style s) ∙ filled-empty (bare_style s) (ap bare_items none)

pub bare-run : (s : style.Style) (run : IsRun s)
    → filled_item (bare_item (item.Style s)) ≡ item.Style (record { selectors = map erased s.selectors; items = item.Plain (map bared (run.first ∷ run.more)) ∷ []; at = 0 }) ∷ []
bare-run s run =
    let inner = ap bare_items run.is ∙ ap (λ (x : Item). x ∷ []) (bare_item-Plain (run.first ∷ run.more)) in
    ap filled_item (bare_item-Style s) ∙ filled-run (bare_style s) (record { first = bared run.first; more = map bared run.more; is = inner })

-- Groups, rules that are passed on and other at-rules.

pub again-group : (g : group.Group) → item_again (item.Group g) ≡ group_again g.condition (items_again g.items)
again-group g =
    ap (λ (a : ItemAgain). a.among) (folded-Group spelling_again g)
    ∙ ap (group_again g.condition) (flat_map-map (λ (a : ItemAgain). a.among) spelled_item g.items)

text-group : (g : group.Group) → (printed_item (item.Group g)).among ≡ group_text g.condition (items_text g.items)
text-group g = ap (λ (t : ItemText). t.among) (printed_item-Group g)

bare-group : (g : group.Group) → filled_item (bare_item (item.Group g)) ≡ group_round (bare_condition g.condition) 0 (filled_items (bare_items g.items))
bare-group g =
    let bare : group.Group = record { condition = bare_condition g.condition; items = bare_items g.items; at = 0 } in
    ap filled_item (bare_item-Group g) ∙ filled_item-Group bare

group-of-leaves : (g : group.Group) → leaves (item.Group g) ≡ group_leaves g.condition (all_leaves g.items)
group-of-leaves g = folded-Group leafing g ∙ ap (group_leaves g.condition) (flat_map-map (λ (ls : List Leaf). ls) leaves g.items)

pub again-passed : (rule : Passed) → item_again (item.Passed rule) ≡ passed_again rule
again-passed rule = ap (λ (a : ItemAgain). a.among) (folded-Passed spelling_again rule)

pub text-passed : (rule : Passed) → (printed_item (item.Passed rule)).among ≡ passed_text rule
text-passed rule = ap (λ (t : ItemText). t.among) (printed_item-Passed rule)

pub bare-passed : (rule : Passed) → filled_item (bare_item (item.Passed rule)) ≡ item.Passed (bared_rule rule) ∷ []
bare-passed rule = ap filled_item (bare_item-Passed rule) ∙ filled_item-Passed (bared_rule rule)

bare-other : (at : ℕ) → filled_item (bare_item (item.Other at)) ≡ []
bare-other at = ap filled_item (bare_item-Other at) ∙ filled_item-Other 0

-- Of an item at the top nothing is printed, or something is.

-- there is something in the list
abbrev pub IsSome : {X : Type 0} → List X → Type 0
IsSome [] = ⊥
IsSome (x ∷ xs) = Unit {0}

pub some-left : {X : Type 0} (xs ys : List X) → IsSome xs → IsSome (xs ++ ys)
some-left [] ys some = absurd some
some-left (x ∷ xs) ys some = tt

pub some-right : {X : Type 0} (xs ys : List X) → IsSome ys → IsSome (xs ++ ys)
some-right [] ys some = some
some-right (x ∷ xs) ys some = tt

-- nothing of the item is printed or kept
pub record IsHollow (x : Item) : Type 0 where
  pub again : item_again x ≡ []
  pub text : (printed_item x).among ≡ []
  pub bare : filled_item (bare_item x) ≡ []
  pub leaves_of : leaves x ≡ []

-- something is
record IsFull (x : Item) : Type 0 where
  again : IsSome (item_again x)
  text : IsSome (printed_item x).among
  bare : IsSome (filled_item (bare_item x))
  leaves_of : IsSome (leaves x)

-- nothing of the items is printed or kept
record AreHollow (xs : List Item) : Type 0 where
  again : items_again xs ≡ []
  text : items_text xs ≡ []
  bare : filled_items (bare_items xs) ≡ []
  leaves_of : all_leaves xs ≡ []

-- something is
pub record AreFull (xs : List Item) : Type 0 where
  pub again : IsSome (items_again xs)
  pub text : IsSome (items_text xs)
  pub bare : IsSome (filled_items (bare_items xs))
  pub leaves_of : IsSome (all_leaves xs)

-- The parts of a group in which something is printed.

again-some : (condition : GroupCondition) (cs : List Component) → IsSome cs → group_again condition cs ≡ condition_again condition ++ braces (line_feed ∷ cs) ∷ line_feed ∷ []
again-some condition [] some = absurd some
again-some condition (c ∷ cs) some = refl

text-some : (condition : GroupCondition) (text : List ℕ) → IsSome text → group_text condition text ≡ condition_text condition ++ (codes "{" ++ (10 ∷ text ++ (codes "}" ++ 10 ∷ [])))
text-some condition [] some = absurd some
text-some condition (c ∷ text) some = refl

round-some : (condition : GroupCondition) (xs : List Item) → IsSome xs → group_round condition 0 xs ≡ item.Group (record { condition = condition; items = xs; at = 0 }) ∷ []
round-some condition [] some = absurd some
round-some condition (x ∷ xs) some = refl

leaves-some : (condition : GroupCondition) (ls : List Leaf) → IsSome ls → group_leaves condition ls ≡ OfCondition condition ∷ ls
leaves-some condition [] some = absurd some
leaves-some condition (l ∷ ls) some = refl

pub again-full : (g : group.Group) → AreFull g.items → item_again (item.Group g) ≡ condition_again g.condition ++ braces (line_feed ∷ items_again g.items) ∷ line_feed ∷ []
again-full g full = again-group g ∙ again-some g.condition (items_again g.items) full.again

pub text-full : (g : group.Group) → AreFull g.items → (printed_item (item.Group g)).among ≡ condition_text g.condition ++ (codes "{" ++ (10 ∷ items_text g.items ++ (codes "}" ++ 10 ∷ [])))
text-full g full = text-group g ∙ text-some g.condition (items_text g.items) full.text

pub bare-full : (g : group.Group) → AreFull g.items
    → filled_item (bare_item (item.Group g)) ≡ item.Group (record { condition = bare_condition g.condition; items = filled_items (bare_items g.items); at = 0 }) ∷ []
bare-full g full = bare-group g ∙ round-some (bare_condition g.condition) (filled_items (bare_items g.items)) full.bare

leaves-full : (g : group.Group) → AreFull g.items → leaves (item.Group g) ≡ OfCondition g.condition ∷ all_leaves g.items
leaves-full g full = group-of-leaves g ∙ leaves-some g.condition (all_leaves g.items) full.leaves_of

-- Which of the two an item is.

hollow-empty : (s : style.Style) → s.items ≡ [] → IsHollow (item.Style s)
hollow-empty s none = record { again = again-empty s none; text = text-empty s none; bare = bare-empty s none; leaves_of = rule-of-leaves s [] none }

full-run : (s : style.Style) (run : IsRun s) → IsFull (item.Style s)
full-run s run =
    let ds = run.first ∷ run.more in
    record {
      again = subst IsSome (sym (again-run s run)) (some-right (list_spelling s.selectors) (braces (declarations_again ds) ∷ line_feed ∷ []) tt);
      text = subst IsSome (sym (text-run s run)) (some-right (list_text s.selectors) (codes "{" ++ (declarations_text ds ++ (codes "}" ++ 10 ∷ []))) tt);
      bare = subst IsSome (sym (bare-run s run)) tt;
      leaves_of = subst IsSome (sym (rule-of-leaves s ds run.is)) tt;
    }

hollow-group : (g : group.Group) → AreHollow g.items → IsHollow (item.Group g)
hollow-group g hollow = record {
  again = again-group g ∙ ap (group_again g.condition) hollow.again;
  text = text-group g ∙ ap (group_text g.condition) hollow.text;
  bare = bare-group g ∙ ap (group_round (bare_condition g.condition) 0) hollow.bare;
  leaves_of = group-of-leaves g ∙ ap (group_leaves g.condition) hollow.leaves_of;
}

full-group : (g : group.Group) → AreFull g.items → IsFull (item.Group g)
full-group g full = record {
  again = subst IsSome (sym (again-full g full)) (some-right (condition_again g.condition) (braces (line_feed ∷ items_again g.items) ∷ line_feed ∷ []) tt);
  text = subst IsSome (sym (text-full g full)) (some-right (condition_text g.condition) (codes "{" ++ (10 ∷ items_text g.items ++ (codes "}" ++ 10 ∷ []))) tt);
  bare = subst IsSome (sym (bare-full g full)) tt;
  leaves_of = subst IsSome (sym (leaves-full g full)) tt;
}

full-passed : (rule : Passed) → IsFull (item.Passed rule)
full-passed rule = record {
  again = subst IsSome (sym (again-passed rule)) tt;
  text = subst IsSome (sym (text-passed rule)) tt;
  bare = subst IsSome (sym (bare-passed rule)) tt;
  leaves_of = subst IsSome (sym (folded-Passed leafing rule)) tt;
}

hollow-other : (at : ℕ) → IsHollow (item.Other at)
hollow-other at = record {
  again = ap (λ (a : ItemAgain). a.among) (folded-Other spelling_again at);
  text = ap (λ (t : ItemText). t.among) (printed_item-Other at);
  bare = bare-other at;
  leaves_of = folded-Other leafing at;
}

abbrev Shaped : Item → Type 0
Shaped x = IsTop x → IsHollow x ⊎ IsFull x

-- one more item in front
hollow-cons : (x : Item) (xs : List Item) → IsHollow x → AreHollow xs → AreHollow (x ∷ xs)
hollow-cons x xs first rest = record {
  again = ap (λ cs. cs ++ items_again xs) first.again ∙ rest.again;
  text = ap (λ t. t ++ items_text xs) first.text ∙ rest.text;
  bare = ap (λ (ys : List Item). ys ++ filled_items (bare_items xs)) first.bare ∙ rest.bare;
  leaves_of = ap (λ (ls : List Leaf). ls ++ all_leaves xs) first.leaves_of ∙ rest.leaves_of;
}

full-cons : (x : Item) (xs : List Item) → IsHollow x ⊎ IsFull x → AreHollow xs ⊎ AreFull xs → AreHollow (x ∷ xs) ⊎ AreFull (x ∷ xs)
full-cons x xs (inl first) (inl rest) = inl (hollow-cons x xs first rest)
full-cons x xs (inr first) rest =
    inr (record {
      again = some-left (item_again x) (items_again xs) first.again;
      text = some-left (printed_item x).among (items_text xs) first.text;
      bare = some-left (filled_item (bare_item x)) (filled_items (bare_items xs)) first.bare;
      leaves_of = some-left (leaves x) (all_leaves xs) first.leaves_of;
    })
full-cons x xs (inl first) (inr rest) =
    inr (record {
      again = some-right (item_again x) (items_again xs) rest.again;
      text = some-right (printed_item x).among (items_text xs) rest.text;
      bare = some-right (filled_item (bare_item x)) (filled_items (bare_items xs)) rest.bare;
      leaves_of = some-right (leaves x) (all_leaves xs) rest.leaves_of;
    })

all-shaped : (xs : List Item) → Each Shaped xs → AllByRecursion IsTop xs → AreHollow xs ⊎ AreFull xs
all-shaped [] each tops = inl (record { again = refl; text = refl; bare = refl; leaves_of = refl })
all-shaped (x ∷ xs) each tops = full-cons x xs (each.0 tops.0) (all-shaped xs each.1 tops.1)

-- a style rule at the top is empty, or has one run
top-style : (s : style.Style) → IsTop (item.Style s) → (s.items ≡ []) ⊎ IsRun s
top-style s top = lone-items s (sym (ap (λ (t : Seat). t.top) (folded-Style seating s)) ∙ top)

-- each item of a group at the top may stand there too
top-group : (g : group.Group) → IsTop (item.Group g) → AllByRecursion IsTop g.items
top-group g top = each-top g.items (sym (ap (λ (t : Seat). t.top) (folded-Group seating g)) ∙ top)
  where
    each-top : (xs : List Item) → list_all (λ (t : Seat). t.top) (map seat xs) ≡ true → AllByRecursion IsTop xs
    each-top [] tops = tt
    each-top (x ∷ xs) tops = let parts = and_parts (seat x).top (list_all (λ (t : Seat). t.top) (map seat xs)) tops in (parts.0, each-top xs parts.1)

shaped : (x : Item) → Shaped x
shaped x =
    by_items Shaped (record {
      plain = λ ds top. absurd (cc (top, folded-Plain seating ds));
      style = λ s each top. elim (top-style s top) [ inl none ↦ inl (hollow-empty s none) | inr run ↦ inr (full-run s run) ];
      group = λ g each top. elim (all-shaped g.items each (top-group g top)) [ inl hollow ↦ inl (hollow-group g hollow) | inr full ↦ inr (full-group g full) ];
      passed = λ rule top. inr (full-passed rule);
      other = λ at top. inl (hollow-other at);
    }) x

every-shaped : (xs : List Item) → Each Shaped xs
every-shaped [] = tt
every-shaped (x ∷ xs) = (shaped x, every-shaped xs)

-- What holds of each item at the top whose leaves are fine: of one of which nothing is printed, of a rule with declarations, of a group in which something is printed from what holds of each item in it, and of a rule that is passed on.
pub record TopCases (Fine : Leaf → Type 0) (P : Item → Type 0) : Type 0 where
  pub hollow : (x : Item) → IsHollow x → P x
  pub rule : (s : style.Style) (run : IsRun s) → Fine (OfList s.selectors) → AllByRecursion (λ d. Fine (OfDeclaration d)) (run.first ∷ run.more) → P (item.Style s)
  pub group : (g : group.Group) → AreFull g.items → Fine (OfCondition g.condition) → AllByRecursion P g.items → P (item.Group g)
  pub passed : (rule : Passed) → Fine (OfPassed rule) → P (item.Passed rule)

module _ (Fine : Leaf → Type 0) (P : Item → Type 0) (cases : TopCases Fine P) where
  abbrev Are : List Leaf → Type 0
  Are ls = AllByRecursion Fine ls

  abbrev AtTop : Item → Type 0
  AtTop x = IsTop x → Are (leaves x) → P x

  of-style : (s : style.Style) → (s.items ≡ []) ⊎ IsRun s → Are (leaves (item.Style s)) → P (item.Style s)
  of-style s (inl none) fine = cases.hollow (item.Style s) (hollow-empty s none)
  of-style s (inr run) fine =
      let ds = run.first ∷ run.more in
      let each = subst Are (rule-of-leaves s ds run.is) fine in
      cases.rule s run each.0 (of-leaves Fine ds each.1)

  all-at-top : (xs : List Item) → Each AtTop xs → AllByRecursion IsTop xs → Are (all_leaves xs) → AllByRecursion P xs
  all-at-top [] each tops fine = tt
  all-at-top (x ∷ xs) each tops fine = (each.0 tops.0 (each-left Fine (leaves x) (all_leaves xs) fine), all-at-top xs each.1 tops.1 (each-right Fine (leaves x) (all_leaves xs) fine))

  of-group : (g : group.Group) → Each AtTop g.items → AllByRecursion IsTop g.items → AreHollow g.items ⊎ AreFull g.items → Are (leaves (item.Group g)) → P (item.Group g)
  of-group g each tops (inl hollow) fine = cases.hollow (item.Group g) (hollow-group g hollow)
  of-group g each tops (inr full) fine =
      let parts = subst Are (leaves-full g full) fine in
      cases.group g full parts.0 (all-at-top g.items each tops parts.1)

  at-top : (x : Item) → AtTop x
  at-top x =
      by_items AtTop (record {
        plain = λ ds top fine. absurd (cc (top, folded-Plain seating ds));
        style = λ s each top fine. of-style s (top-style s top) fine;
        group = λ g each top fine. let tops = top-group g top in of-group g each tops (all-shaped g.items (every-shaped g.items) tops) fine;
        passed = λ rule top fine. cases.passed rule (subst Are (folded-Passed leafing rule) fine).0;
        other = λ at top fine. cases.hollow (item.Other at) (hollow-other at);
      }) x

  -- by induction over items
  pub by_tops : (xs : List Item) → AllByRecursion IsTop xs → AllByRecursion Fine (all_leaves xs) → AllByRecursion P xs
  by_tops [] tops fine = tt
  by_tops (x ∷ xs) tops fine = (at-top x tops.0 (each-left Fine (leaves x) (all_leaves xs) fine), by_tops xs tops.1 (each-right Fine (leaves x) (all_leaves xs) fine))
