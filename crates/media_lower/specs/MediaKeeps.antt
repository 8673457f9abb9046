-- What an item becomes shows what the item shows.
use Rattle.std.specs.Prelude.{ℕ, List, [], ◌∷◌, map, flat_map, Bool, true, ◌&&◌, ◌≡◌, IsTrue}
use Rattle.std.specs.List.{AllByRecursion, list_all}
use Rattle.std.proofs.Common.{refl, sym, ◌∙◌, ap}
use Rattle.std.proofs.lemmas.List.{append-nil}
use Rattle.media_spelling.specs.declared.condition.Query.{Query}
use Rattle.selector_types.specs.Erased.{erased}
use Rattle.sheet_types.specs.declared.sheet.Group as group
use Rattle.sheet_types.specs.declared.sheet.GroupCondition.{GroupCondition}
use Rattle.sheet_types.specs.declared.sheet.GroupCondition.TheVariants.{Media, Supports}
use Rattle.sheet_types.specs.declared.sheet.Item.{Item}
use Rattle.sheet_types.specs.declared.sheet.Item as item
use Rattle.sheet_types.specs.declared.sheet.Style as style
use Rattle.sheet_types.specs.Conditions.{bare_condition}
use Rattle.sheet_types.specs.Contexts.{Context, outside, under_condition, under_list}
use Rattle.sheet_types.specs.ItemInduction.{Each, by_items}
use Rattle.sheet_types.specs.Statements.{says, say_all, says-Style, says-Group}
use Rattle.cascade_spec.specs.declared.environment.Environment.{Environment}
use Rattle.cascade_spec.specs.Cascade.{Question}
use Rattle.cascade_spec.specs.Contents.{IsKept}
use Rattle.cascade_spec.specs.Showing.{showing}
use Rattle.cascade_spec.specs.Standings.{Standing, standing_of}
use Rattle.cascade_spec.specs.Truth.{queries_hold}
use Rattle.cascade_spec.proofs.AlikeLemmas.{Alike, alike-condition, alike-list, alike-shows, all-shown, at-condition}
use Rattle.cascade_spec.proofs.KeptLemmas.{kept-shown}
use Rattle.media_clauses.specs.KnownRanges.{have_known_ranges}
use Rattle.media_clauses.specs.Lowered.{lowered}
use Rattle.media_clauses.proofs.BoolLemmas.{and-assoc, and-left, and-right, and-true}
use Rattle.media_clauses.proofs.LoweredLemmas.{lowered-holds}
use Rattle.media_lower.specs.MediaItems.{each-Group, each-Style, has_known_lists, in_groups, lowered_group, lowered_item, lowered-Plain, lowered-Style, lowered-Group, lowered-Passed, lowered-Other, tested}

module _ (q : Question) where
  abbrev env : Environment
  env = q.world.environment

  abbrev at : Context → Standing
  at c = standing_of q.world c

  -- Groups one inside the other.

  -- inside groups with these media lists, the first outermost
  abbrev under_lists : List (List Query) → Context → Context
  under_lists [] c = c
  under_lists (list ∷ lists) c = under_lists lists (under_condition (Media list) c)

  groups-say : (place : ℕ) (lists : List (List Query)) (items : List Item) (c : Context) → say_all (in_groups place lists items) c ≡ say_all items (under_lists lists c)
  groups-say place [] items c = refl
  groups-say place (list ∷ lists) items c =
      let g : group.Group = record { condition = Media list; items = in_groups place lists items; at = place } in
      append-nil (says (item.Group g) c) ∙ says-Group g c ∙ groups-say place lists items (under_condition (Media list) c)

  -- where this has to hold too
  abbrev asking : Bool → Standing → Standing
  asking b s = record { holds = s.holds && b; layer = s.layer; around = s.around }

  lists-stand : (lists : List (List Query)) (c : Context) → at (under_lists lists c) ≡ asking (list_all (queries_hold env) lists) (at c)
  lists-stand [] c = ap (λ (holds : Bool). record { holds = holds; layer = (at c).layer; around = (at c).around }) (sym (and-true (at c).holds))
  lists-stand (list ∷ lists) c =
      let rest = list_all (queries_hold env) lists in
      lists-stand lists (under_condition (Media list) c)
      ∙ ap (asking rest) (at-condition q.world (Media list) c)
      ∙ ap (λ (holds : Bool). record { holds = holds; layer = (at c).layer; around = (at c).around }) (and-assoc (at c).holds (queries_hold env list) rest)

  -- the lists of the lowered form are asked as the list is
  lowered-stand : (list : List Query) (a b : Context) → have_known_ranges list ≡ true → Alike q a b → Alike q (under_lists (lowered list) a) (under_condition (Media list) b)
  lowered-stand list a b known alike =
      lists-stand (lowered list) a
      ∙ ap (λ (holds : Bool). asking holds (at a)) (lowered-holds env list known)
      ∙ ap (asking (queries_hold env list)) alike
      ∙ sym (at-condition q.world (Media list) b)

  -- Items.

  abbrev Becomes : Item → Type 0
  Becomes x = has_known_lists x ≡ true → (a b : Context) → Alike q a b → showing q (say_all (lowered_item x) a) ≡ showing q (says x b)

  each-becomes : (xs : List Item) → Each Becomes xs → list_all has_known_lists xs ≡ true → (a b : Context) → Alike q a b
      → AllByRecursion (λ x. showing q (say_all (lowered_item x) a) ≡ showing q (says x b)) xs
  each-becomes [] each known a b alike = tt
  each-becomes (x ∷ xs) each known a b alike =
      (each.0 (and-left (has_known_lists x) (list_all has_known_lists xs) known) a b alike, each-becomes xs each.1 (and-right (has_known_lists x) (list_all has_known_lists xs) known) a b alike)

  -- what the items in a rule or a group show
  abbrev Inside : List Item → Type 0
  Inside xs = (a b : Context) → Alike q a b → showing q (say_all (flat_map lowered_item xs) a) ≡ showing q (say_all xs b)

  inside : (xs : List Item) → Each Becomes xs → list_all has_known_lists xs ≡ true → Inside xs
  inside xs each known a b alike = all-shown q lowered_item a b xs (each-becomes xs each known a b alike)

  one-shows : (x : Item) (c : Context) → showing q (say_all (x ∷ []) c) ≡ showing q (says x c)
  one-shows x c = ap (showing q) (append-nil (says x c))

  -- an item that stays
  stays : (x : Item) → lowered_item x ≡ x ∷ [] → Becomes x
  stays x same known a b alike = ap (λ (xs : List Item). showing q (say_all xs a)) same ∙ one-shows x a ∙ alike-shows q x a b alike

  group-becomes : (condition : GroupCondition) (place : ℕ) (xs : List Item) → tested have_known_ranges condition ≡ true → Inside xs → (a b : Context) → Alike q a b
      → showing q (say_all (lowered_group condition place (flat_map lowered_item xs)) a) ≡ showing q (say_all xs (under_condition (bare_condition condition) b))
  group-becomes (Media list) place xs known shows a b alike =
      ap (showing q) (groups-say place (lowered list) (flat_map lowered_item xs) a)
      ∙ shows (under_lists (lowered list) a) (under_condition (Media list) b) (lowered-stand list a b known alike)
  group-becomes (Supports condition) place xs known shows a b alike =
      let g : group.Group = record { condition = Supports condition; items = flat_map lowered_item xs; at = place } in
      let bare = bare_condition (Supports condition) in
      one-shows (item.Group g) a
      ∙ ap (showing q) (says-Group g a)
      ∙ shows (under_condition bare a) (under_condition bare b) (alike-condition q bare a b alike)

  becomes : (x : Item) → Becomes x
  becomes x =
      by_items Becomes (record {
        plain = λ ds. stays (item.Plain ds) (lowered-Plain ds);
        style = λ s each known a b alike.
            let made : style.Style = record { selectors = s.selectors; items = flat_map lowered_item s.items; at = s.at } in
            let list = map erased s.selectors in
            ap (λ (xs : List Item). showing q (say_all xs a)) (lowered-Style s)
            ∙ one-shows (item.Style made) a
            ∙ ap (showing q) (says-Style made a)
            ∙ inside s.items each (sym (each-Style have_known_ranges s) ∙ known) (under_list list a) (under_list list b) (alike-list q list a b alike)
            ∙ ap (showing q) (sym (says-Style s b));
        group = λ g each known a b alike.
            let both = sym (each-Group have_known_ranges g) ∙ known in
            let here = tested have_known_ranges g.condition in
            let within = list_all has_known_lists g.items in
            ap (λ (xs : List Item). showing q (say_all xs a)) (lowered-Group g)
            ∙ group-becomes g.condition g.at g.items (and-left here within both) (inside g.items each (and-right here within both)) a b alike
            ∙ ap (showing q) (sym (says-Group g b));
        passed = λ rule. stays (item.Passed rule) (lowered-Passed rule);
        other = λ place. stays (item.Other place) (lowered-Other place);
      }) x

  becomes-each : (xs : List Item) → AllByRecursion (λ x. IsTrue (has_known_lists x)) xs → AllByRecursion (λ x. showing q (say_all (lowered_item x) outside) ≡ showing q (says x outside)) xs
  becomes-each [] known = tt
  becomes-each (x ∷ xs) known = (becomes x known.0 outside outside refl, becomes-each xs known.1)

  -- So the winners and the passed rules are kept.
  pub keeps-media : (items : List Item) → AllByRecursion (λ x. IsTrue (has_known_lists x)) items → IsKept q (say_all items outside) (say_all (flat_map lowered_item items) outside)
  keeps-media items known =
      kept-shown q (say_all items outside) (say_all (flat_map lowered_item items) outside)
      (all-shown q lowered_item outside outside items (becomes-each items known))
