-- Items that may stand at the top become such items, and what holds of each leaf of theirs holds of each leaf of what they become.
use Rattle.std.proofs.Common.{◌≡◌, ℕ, List, [], ◌∷◌, ◌++◌, true, map, flat_map, refl, sym, ap, ap₂, ◌∙◌, subst, inl, inr, ◌⊎◌}
use Rattle.std.specs.List.{AllByRecursion, list_all}
use Rattle.std.proofs.lemmas.Bool.{and_from, false≢true}
use Rattle.std.proofs.lemmas.List.{append-nil}
use Rattle.std.proofs.lemmas.List.Concat.{flat_map-append}
use Rattle.std.proofs.lemmas.List.Folds.{flat_map-map}
use Rattle.selector_types.specs.declared.selector.Selector.{Selector}
use Rattle.media_spelling.specs.declared.condition.Query.{Query}
use Rattle.media_tree.proofs.ListsHold.{each-append, each-back, each-front}
use Rattle.sheet_types.specs.declared.sheet.Group as group
use Rattle.sheet_types.specs.declared.sheet.GroupCondition.{GroupCondition}
use Rattle.sheet_types.specs.declared.sheet.GroupCondition.TheVariants.{Media, Supports}
use Rattle.sheet_types.specs.declared.sheet.Item.{Item}
use Rattle.sheet_types.specs.declared.sheet.Item as item
use Rattle.sheet_types.specs.declared.sheet.Style as style
use Rattle.sheet_types.specs.ItemFold.{folded-Style, folded-Group}
use Rattle.sheet_types.specs.ItemInduction.{Each, by_items}
use Rattle.sheet_types.specs.Leaves.{IsTop, Leaf, OfCondition, OfList, Seat, all_leaves, group_leaves, is_lone, leafing, leaves, rule_leaves, seat, seating}
use Rattle.media_clauses.specs.Lowered.{lowered}
use Rattle.media_clauses.proofs.BoolLemmas.{and-left, and-right}
use Rattle.media_lower.specs.MediaItems.{in_groups, lowered_group, lowered_item, lowered-Plain, lowered-Style, lowered-Group, lowered-Passed, lowered-Other}

-- Seats.

abbrev AreTops : List Item → Type 0
AreTops xs = AllByRecursion IsTop xs

-- what stands alone in a block stays
abbrev StaysAlone : Item → Type 0
StaysAlone x = (seat x).alone ≡ true → lowered_item x ≡ x ∷ []

stays-alone : (x : Item) → StaysAlone x
stays-alone x =
    by_items StaysAlone (record {
      plain = λ ds e. lowered-Plain ds;
      style = λ s each e. absurd (false≢true (sym (ap (λ (t : Seat). t.alone) (folded-Style seating s)) ∙ e));
      group = λ g each e. absurd (false≢true (sym (ap (λ (t : Seat). t.alone) (folded-Group seating g)) ∙ e));
      passed = λ rule e. lowered-Passed rule;
      other = λ at e. lowered-Other at;
    }) x

lone-stays : (xs : List Item) → is_lone (map seat xs) ≡ true → flat_map lowered_item xs ≡ xs
lone-stays [] e = refl
lone-stays (x ∷ []) e = append-nil (lowered_item x) ∙ stays-alone x e
lone-stays (x ∷ y ∷ xs) e = absurd (false≢true e)

-- a group of items at the top
group-seat : (g : group.Group) → (seat (item.Group g)).top ≡ list_all (λ (t : Seat). t.top) (map seat g.items)
group-seat g = ap (λ (t : Seat). t.top) (folded-Group seating g)

tops-from : (xs : List Item) → list_all (λ (t : Seat). t.top) (map seat xs) ≡ true → AreTops xs
tops-from [] e = tt
tops-from (x ∷ xs) e =
    let more = list_all (λ (t : Seat). t.top) (map seat xs) in
    (and-left (seat x).top more e, tops-from xs (and-right (seat x).top more e))

tops-to : (xs : List Item) → AreTops xs → list_all (λ (t : Seat). t.top) (map seat xs) ≡ true
tops-to [] h = refl
tops-to (x ∷ xs) h = and_from (seat x).top (list_all (λ (t : Seat). t.top) (map seat xs)) h.0 (tops-to xs h.1)

group-top : (g : group.Group) → AreTops g.items → AreTops (item.Group g ∷ [])
group-top g h = (group-seat g ∙ tops-to g.items h, tt)

groups-top : (at : ℕ) (lists : List (List Query)) (xs : List Item) → AreTops xs → AreTops (in_groups at lists xs)
groups-top at [] xs h = h
groups-top at (list ∷ lists) xs h = group-top (record { condition = Media list; items = in_groups at lists xs; at = at }) (groups-top at lists xs h)

lowered-top : (condition : GroupCondition) (at : ℕ) (xs : List Item) → AreTops xs → AreTops (lowered_group condition at xs)
lowered-top (Media list) at xs h = groups-top at (lowered list) xs h
lowered-top (Supports condition) at xs h = group-top (record { condition = Supports condition; items = xs; at = at }) h

abbrev BecomesTops : Item → Type 0
BecomesTops x = IsTop x → AreTops (lowered_item x)

each-tops : (xs : List Item) → Each BecomesTops xs → AreTops xs → AreTops (flat_map lowered_item xs)
each-tops [] each h = tt
each-tops (x ∷ xs) each h = each-append IsTop (lowered_item x) (flat_map lowered_item xs) (each.0 h.0) (each-tops xs each.1 h.1)

style-top : (s : style.Style) → IsTop (item.Style s) → IsTop (item.Style (record { selectors = s.selectors; items = flat_map lowered_item s.items; at = s.at }))
style-top s h =
    let lone : is_lone (map seat s.items) ≡ true = sym (ap (λ (t : Seat). t.top) (folded-Style seating s)) ∙ h in
    ap (λ (t : Seat). t.top) (folded-Style seating (record { selectors = s.selectors; items = flat_map lowered_item s.items; at = s.at }))
    ∙ ap (λ (xs : List Item). is_lone (map seat xs)) (lone-stays s.items lone)
    ∙ lone

becomes-tops : (x : Item) → BecomesTops x
becomes-tops x =
    by_items BecomesTops (record {
      plain = λ ds h. subst AreTops (sym (lowered-Plain ds)) (h, tt);
      style = λ s each h. subst AreTops (sym (lowered-Style s)) (style-top s h, tt);
      group = λ g each h. subst AreTops (sym (lowered-Group g)) (lowered-top g.condition g.at (flat_map lowered_item g.items) (each-tops g.items each (tops-from g.items (sym (group-seat g) ∙ h))));
      passed = λ rule h. subst AreTops (sym (lowered-Passed rule)) (h, tt);
      other = λ at h. subst AreTops (sym (lowered-Other at)) (h, tt);
    }) x

-- Items at the top become items at the top.
pub items-tops : (xs : List Item) → AreTops xs → AreTops (flat_map lowered_item xs)
items-tops [] h = tt
items-tops (x ∷ xs) h = each-append IsTop (lowered_item x) (flat_map lowered_item xs) (becomes-tops x h.0) (items-tops xs h.1)

-- Leaves.

style-leaves : (s : style.Style) → leaves (item.Style s) ≡ rule_leaves s.selectors (all_leaves s.items)
style-leaves s = folded-Style leafing s ∙ ap (rule_leaves s.selectors) (flat_map-map (λ (ls : List Leaf). ls) leaves s.items)

group-leaves : (g : group.Group) → leaves (item.Group g) ≡ group_leaves g.condition (all_leaves g.items)
group-leaves g = folded-Group leafing g ∙ ap (group_leaves g.condition) (flat_map-map (λ (ls : List Leaf). ls) leaves g.items)

leaves-alone : (x : Item) → all_leaves (x ∷ []) ≡ leaves x
leaves-alone x = append-nil (leaves x)

leaves-append : (xs ys : List Item) → all_leaves (xs ++ ys) ≡ all_leaves xs ++ all_leaves ys
leaves-append xs ys = flat_map-append leaves xs ys

-- Items of which nothing is printed become such items.

none-append : (a b : List Leaf) → a ++ b ≡ [] → (a ≡ []) × (b ≡ [])
none-append [] b e = (refl, e)
none-append (l ∷ a) b e = absurd (cc e)

none-in-rule : (list : List Selector) (ls : List Leaf) → rule_leaves list ls ≡ [] → ls ≡ []
none-in-rule list [] e = refl
none-in-rule list (l ∷ ls) e = absurd (cc e)

none-in-group : (condition : GroupCondition) (ls : List Leaf) → group_leaves condition ls ≡ [] → ls ≡ []
none-in-group condition [] e = refl
none-in-group condition (l ∷ ls) e = absurd (cc e)

abbrev AreNone : List Item → Type 0
AreNone xs = all_leaves xs ≡ []

group-none : (g : group.Group) → AreNone g.items → AreNone (item.Group g ∷ [])
group-none g h = leaves-alone (item.Group g) ∙ group-leaves g ∙ ap (group_leaves g.condition) h

groups-none : (at : ℕ) (lists : List (List Query)) (xs : List Item) → AreNone xs → AreNone (in_groups at lists xs)
groups-none at [] xs h = h
groups-none at (list ∷ lists) xs h = group-none (record { condition = Media list; items = in_groups at lists xs; at = at }) (groups-none at lists xs h)

lowered-none : (condition : GroupCondition) (at : ℕ) (xs : List Item) → AreNone xs → AreNone (lowered_group condition at xs)
lowered-none (Media list) at xs h = groups-none at (lowered list) xs h
lowered-none (Supports condition) at xs h = group-none (record { condition = Supports condition; items = xs; at = at }) h

abbrev BecomesNone : Item → Type 0
BecomesNone x = leaves x ≡ [] → AreNone (lowered_item x)

each-none : (xs : List Item) → Each BecomesNone xs → AreNone xs → AreNone (flat_map lowered_item xs)
each-none [] each h = refl
each-none (x ∷ xs) each h =
    let both = none-append (leaves x) (all_leaves xs) h in
    leaves-append (lowered_item x) (flat_map lowered_item xs) ∙ ap₂ ◌++◌ (each.0 both.0) (each-none xs each.1 both.1)

stays-none : (x : Item) → lowered_item x ≡ x ∷ [] → BecomesNone x
stays-none x same h = ap all_leaves same ∙ leaves-alone x ∙ h

becomes-none : (x : Item) → BecomesNone x
becomes-none x =
    by_items BecomesNone (record {
      plain = λ ds. stays-none (item.Plain ds) (lowered-Plain ds);
      style = λ s each h.
          let made : style.Style = record { selectors = s.selectors; items = flat_map lowered_item s.items; at = s.at } in
          let inner = each-none s.items each (none-in-rule s.selectors (all_leaves s.items) (sym (style-leaves s) ∙ h)) in
          ap all_leaves (lowered-Style s) ∙ leaves-alone (item.Style made) ∙ style-leaves made ∙ ap (rule_leaves s.selectors) inner;
      group = λ g each h.
          let inner = each-none g.items each (none-in-group g.condition (all_leaves g.items) (sym (group-leaves g) ∙ h)) in
          ap all_leaves (lowered-Group g) ∙ lowered-none g.condition g.at (flat_map lowered_item g.items) inner;
      passed = λ rule. stays-none (item.Passed rule) (lowered-Passed rule);
      other = λ at. stays-none (item.Other at) (lowered-Other at);
    }) x

items-none : (xs : List Item) → AreNone xs → AreNone (flat_map lowered_item xs)
items-none [] h = refl
items-none (x ∷ xs) h =
    let both = none-append (leaves x) (all_leaves xs) h in
    leaves-append (lowered_item x) (flat_map lowered_item xs) ∙ ap₂ ◌++◌ (becomes-none x both.0) (items-none xs both.1)

-- Leaves are kept, if the lists of a lowered form are such leaves where the media list is one.
module _ (P : Leaf → Type 0) (kept : (list : List Query) → P (OfCondition (Media list)) → AllByRecursion (λ l. P (OfCondition (Media l))) (lowered list)) where
  abbrev Are : List Leaf → Type 0
  Are ls = AllByRecursion P ls

  -- the leaves of these items
  abbrev AllAre : List Item → Type 0
  AllAre xs = Are (all_leaves xs)

  -- the leaf of a rule or of a group, and those of what stands in it, where it holds any
  abbrev Parts : Leaf → List Leaf → Type 0
  Parts outer ls = (ls ≡ []) ⊎ (P outer × Are ls)

  of-rule : (list : List Selector) (ls : List Leaf) → Are (rule_leaves list ls) → Parts (OfList list) ls
  of-rule list [] h = inl refl
  of-rule list (l ∷ ls) h = inr h

  of-group : (condition : GroupCondition) (ls : List Leaf) → Are (group_leaves condition ls) → Parts (OfCondition condition) ls
  of-group condition [] h = inl refl
  of-group condition (l ∷ ls) h = inr h

  rule-are : (list : List Selector) (ls : List Leaf) → P (OfList list) → Are ls → Are (rule_leaves list ls)
  rule-are list [] p h = tt
  rule-are list (l ∷ ls) p h = (p, h)

  group-are : (condition : GroupCondition) (ls : List Leaf) → P (OfCondition condition) → Are ls → Are (group_leaves condition ls)
  group-are condition [] p h = tt
  group-are condition (l ∷ ls) p h = (p, h)

  alone-are : (x : Item) → Are (leaves x) → AllAre (x ∷ [])
  alone-are x h = subst Are (sym (leaves-alone x)) h

  one-group : (g : group.Group) → P (OfCondition g.condition) → AllAre g.items → AllAre (item.Group g ∷ [])
  one-group g p h = alone-are (item.Group g) (subst Are (sym (group-leaves g)) (group-are g.condition (all_leaves g.items) p h))

  groups-are : (at : ℕ) (lists : List (List Query)) (xs : List Item) → AllByRecursion (λ l. P (OfCondition (Media l))) lists → AllAre xs → AllAre (in_groups at lists xs)
  groups-are at [] xs ps h = h
  groups-are at (list ∷ lists) xs ps h = one-group (record { condition = Media list; items = in_groups at lists xs; at = at }) ps.0 (groups-are at lists xs ps.1 h)

  lowered-are : (condition : GroupCondition) (at : ℕ) (xs : List Item) → P (OfCondition condition) → AllAre xs → AllAre (lowered_group condition at xs)
  lowered-are (Media list) at xs p h = groups-are at (lowered list) xs (kept list p) h
  lowered-are (Supports condition) at xs p h = one-group (record { condition = Supports condition; items = xs; at = at }) p h

  abbrev Becomes : Item → Type 0
  Becomes x = Are (leaves x) → AllAre (lowered_item x)

  each-are : (xs : List Item) → Each Becomes xs → AllAre xs → AllAre (flat_map lowered_item xs)
  each-are [] each h = tt
  each-are (x ∷ xs) each h =
      subst Are (sym (leaves-append (lowered_item x) (flat_map lowered_item xs)))
      (each-append P (all_leaves (lowered_item x)) (all_leaves (flat_map lowered_item xs))
      (each.0 (each-front P (leaves x) (all_leaves xs) h))
      (each-are xs each.1 (each-back P (leaves x) (all_leaves xs) h)))

  none-are : (xs : List Item) → AreNone xs → AllAre xs
  none-are xs none = subst Are (sym none) tt

  style-are : (s : style.Style) → Each Becomes s.items → Parts (OfList s.selectors) (all_leaves s.items) → Are (rule_leaves s.selectors (all_leaves (flat_map lowered_item s.items)))
  style-are s each (inl none) = subst (λ (ls : List Leaf). Are (rule_leaves s.selectors ls)) (sym (items-none s.items none)) tt
  style-are s each (inr parts) = rule-are s.selectors (all_leaves (flat_map lowered_item s.items)) parts.0 (each-are s.items each parts.1)

  in-group : (g : group.Group) → Each Becomes g.items → Parts (OfCondition g.condition) (all_leaves g.items) → AllAre (lowered_group g.condition g.at (flat_map lowered_item g.items))
  in-group g each (inl none) = none-are (lowered_group g.condition g.at (flat_map lowered_item g.items)) (lowered-none g.condition g.at (flat_map lowered_item g.items) (items-none g.items none))
  in-group g each (inr parts) = lowered-are g.condition g.at (flat_map lowered_item g.items) parts.0 (each-are g.items each parts.1)

  stays : (x : Item) → lowered_item x ≡ x ∷ [] → Becomes x
  stays x same h = subst AllAre (sym same) (alone-are x h)

  becomes : (x : Item) → Becomes x
  becomes x =
      by_items Becomes (record {
        plain = λ ds. stays (item.Plain ds) (lowered-Plain ds);
        style = λ s each h.
            let made : style.Style = record { selectors = s.selectors; items = flat_map lowered_item s.items; at = s.at } in
            let inner = style-are s each (of-rule s.selectors (all_leaves s.items) (subst Are (style-leaves s) h)) in
            subst AllAre (sym (lowered-Style s)) (alone-are (item.Style made) (subst Are (sym (style-leaves made)) inner));
        group = λ g each h.
            subst AllAre (sym (lowered-Group g)) (in-group g each (of-group g.condition (all_leaves g.items) (subst Are (group-leaves g) h)));
        passed = λ rule. stays (item.Passed rule) (lowered-Passed rule);
        other = λ at. stays (item.Other at) (lowered-Other at);
      }) x

  pub items-are : (xs : List Item) → AllAre xs → AllAre (flat_map lowered_item xs)
  items-are [] h = tt
  items-are (x ∷ xs) h =
      subst Are (sym (leaves-append (lowered_item x) (flat_map lowered_item xs)))
      (each-append P (all_leaves (lowered_item x)) (all_leaves (flat_map lowered_item xs))
      (becomes x (each-front P (leaves x) (all_leaves xs) h))
      (items-are xs (each-back P (leaves x) (all_leaves xs) h)))
