-- What stands in contexts that are alike in a world shows the same.
use Rattle.std.proofs.Common.{◌≡◌, List, [], ◌∷◌, ◌++◌, Bool, true, false, ◌&&◌, map, flat_map, refl, sym, ◌∙◌, ap}
use Rattle.std.specs.List.{AllByRecursion}
use Rattle.std.proofs.lemmas.Grind.{flat_map-append}
use Rattle.std.proofs.lemmas.List.Folds.{list_all-append}
use Rattle.std.proofs.lemmas.List.Sums.{fold-append}
use Rattle.sheet_types.specs.declared.sheet.Declaration.{Declaration}
use Rattle.sheet_types.specs.declared.sheet.GroupCondition.{GroupCondition}
use Rattle.sheet_types.specs.declared.sheet.Item.{Item}
use Rattle.selector_types.specs.Erased.{erased}
use Rattle.selector_types.specs.declared.selector.Selector.{Selector}
use Rattle.sheet_types.specs.Conditions.{bare_condition}
use Rattle.sheet_types.specs.Contexts.{Context, under_condition, under_list}
use Rattle.sheet_types.specs.ItemInduction.{Each, by_items}
use Rattle.sheet_types.specs.Statements.{BarePassed, Statement, Declares, Passes, bare_declaration, bare_passed, says, say_all, says-Plain, says-Style, says-Group, says-Passed, says-Other}
use Rattle.cascade_spec.specs.Standings.{Standing, standing_of}
use Rattle.cascade_spec.specs.Cascade.{Question, Shown}
use Rattle.cascade_spec.specs.Surroundings.{Around, around_all, within, top}
use Rattle.cascade_spec.specs.Showing.{Showing, showing, joined, declaration_shows, where_holding}
use Rattle.cascade_spec.specs.Truth.{all_hold, group_holds}
use Rattle.cascade_spec.specs.Worlds.{World}
use Rattle.cascade_spec.proofs.KeptLemmas.{showing-append}

and-true : (b : Bool) → (b && true) ≡ b
and-true true = refl
and-true false = refl

-- One more list, and one more condition.

-- the standing inside one more selector list, and under one more condition
abbrev pub with_list : World → List Selector → Standing → Standing
with_list world list s = record { holds = s.holds; layer = s.layer; around = within world s.around list }

abbrev pub with_condition : World → GroupCondition → Standing → Standing
with_condition world condition s = record { holds = s.holds && group_holds world.environment condition; layer = s.layer; around = s.around }

pub at-list : (world : World) (list : List Selector) (c : Context) → standing_of world (under_list list c) ≡ with_list world list (standing_of world c)
at-list world list c =
    ap (λ (around : Around). record { holds = all_hold world.environment c.conditions; layer = c.layer; around = around }) (fold-append (within world) top c.chain (list ∷ []))

pub at-condition : (world : World) (condition : GroupCondition) (c : Context) → standing_of world (under_condition condition c) ≡ with_condition world condition (standing_of world c)
at-condition world condition c =
    ap (λ (holds : Bool). record { holds = holds; layer = c.layer; around = around_all world c.chain })
    (list_all-append (group_holds world.environment) c.conditions (condition ∷ [])
    ∙ ap (λ (b : Bool). all_hold world.environment c.conditions && b) (and-true (group_holds world.environment condition)))

module _ (q : Question) where
  abbrev pub at : Context → Standing
  at c = standing_of q.world c

  abbrev pub Alike : Context → Context → Type 0
  Alike a b = at a ≡ at b

  pub alike-list : (list : List Selector) (a b : Context) → Alike a b → Alike (under_list list a) (under_list list b)
  alike-list list a b alike = at-list q.world list a ∙ ap (with_list q.world list) alike ∙ sym (at-list q.world list b)

  pub alike-condition : (condition : GroupCondition) (a b : Context) → Alike a b → Alike (under_condition condition a) (under_condition condition b)
  alike-condition condition a b alike = at-condition q.world condition a ∙ ap (with_condition q.world condition) alike ∙ sym (at-condition q.world condition b)

  -- What stands in contexts that are alike.

  abbrev Same : List Statement → List Statement → Type 0
  Same x y = showing q x ≡ showing q y

  abbrev of_entries : List Shown → Showing
  of_entries entries = record { entries = entries; layers = []; passed = [] }

  declares-alike : (ds : List Declaration) (a b : Context) → Alike a b → Same (map (λ d. Declares a (bare_declaration d)) ds) (map (λ d. Declares b (bare_declaration d)) ds)
  declares-alike [] a b alike = refl
  declares-alike (d ∷ ds) a b alike =
      ap (λ (s : Standing). joined (of_entries (declaration_shows q s (bare_declaration d))) (showing q (map (λ d. Declares a (bare_declaration d)) ds))) alike
      ∙ ap (joined (of_entries (declaration_shows q (at b) (bare_declaration d)))) (declares-alike ds a b alike)

  abbrev of_passed : List BarePassed → Showing
  of_passed rules = record { entries = []; layers = []; passed = rules }

  passes-alike : (rule : BarePassed) (a b : Context) → Alike a b → Same (Passes a rule ∷ []) (Passes b rule ∷ [])
  passes-alike rule a b alike = ap (λ (s : Standing). of_passed (where_holding s rule ++ [])) alike

  abbrev IsSettled : Item → Type 0
  IsSettled x = (a b : Context) → Alike a b → Same (says x a) (says x b)

  all-alike : (xs : List Item) → Each IsSettled xs → (a b : Context) → Alike a b → Same (say_all xs a) (say_all xs b)
  all-alike [] each a b alike = refl
  all-alike (x ∷ xs) each a b alike =
      showing-append q (says x a) (say_all xs a)
      ∙ ap (λ s. joined s (showing q (say_all xs a))) (each.0 a b alike)
      ∙ ap (joined (showing q (says x b))) (all-alike xs each.1 a b alike)
      ∙ sym (showing-append q (says x b) (say_all xs b))

  pub alike-shows : (x : Item) → IsSettled x
  alike-shows x =
      by_items IsSettled (record {
        plain = λ ds a b alike. ap (showing q) (says-Plain ds a) ∙ declares-alike ds a b alike ∙ ap (showing q) (sym (says-Plain ds b));
        style = λ s each a b alike.
            let list = map erased s.selectors in
            ap (showing q) (says-Style s a) ∙ all-alike s.items each (under_list list a) (under_list list b) (alike-list list a b alike) ∙ ap (showing q) (sym (says-Style s b));
        group = λ g each a b alike.
            let condition = bare_condition g.condition in
            ap (showing q) (says-Group g a) ∙ all-alike g.items each (under_condition condition a) (under_condition condition b) (alike-condition condition a b alike) ∙ ap (showing q) (sym (says-Group g b));
        passed = λ rule a b alike. ap (showing q) (says-Passed rule a) ∙ passes-alike (bare_passed rule) a b alike ∙ ap (showing q) (sym (says-Passed rule b));
        other = λ place a b alike. ap (showing q) (says-Other place a ∙ sym (says-Other place b));
      }) x

  -- What is made of items inside one context shows what they show inside another, where this holds of each.
  pub all-shown : (f : Item → List Item) (a b : Context) (xs : List Item) → AllByRecursion (λ x. showing q (say_all (f x) a) ≡ showing q (says x b)) xs
      → showing q (say_all (flat_map f xs) a) ≡ showing q (say_all xs b)
  all-shown f a b [] each = refl
  all-shown f a b (x ∷ xs) each =
      ap (showing q) (flat_map-append (λ item. says item a) (f x) (flat_map f xs))
      ∙ showing-append q (say_all (f x) a) (say_all (flat_map f xs) a)
      ∙ ap (λ s. joined s (showing q (say_all (flat_map f xs) a))) each.0
      ∙ ap (joined (showing q (says x b))) (all-shown f a b xs each.1)
      ∙ sym (showing-append q (says x b) (say_all xs b))
