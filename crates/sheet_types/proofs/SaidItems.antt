-- What items say depends neither on their places nor on rules and groups that declare nothing.
use Rattle.std.proofs.Common.{◌≡◌, ℕ, List, [], ◌∷◌, ◌++◌, map, flat_map, refl, sym, ◌∙◌, ap}
use Rattle.std.proofs.lemmas.List.{append-nil}
use Rattle.std.proofs.lemmas.List.Folds.{flat_map-map}
use Rattle.std.proofs.lemmas.Grind.{flat_map-append}
use Rattle.selector_types.specs.Erased.{erased}
use Rattle.selector_types.specs.Spelling.{text_of}
use Rattle.selector_types.specs.declared.selector.Selector.{Selector}
use Rattle.sheet_types.specs.declared.sheet.Declaration.{Declaration}
use Rattle.sheet_types.specs.declared.sheet.Item.{Item}
use Rattle.sheet_types.specs.declared.sheet.Item as item
use Rattle.sheet_types.specs.declared.sheet.Group as group
use Rattle.sheet_types.specs.declared.sheet.GroupCondition.{GroupCondition}
use Rattle.sheet_types.specs.declared.sheet.Passed.{Passed}
use Rattle.sheet_types.specs.declared.sheet.Style as style
use Rattle.sheet_types.specs.BareItems.{bared, bared_rule, bare_item, bare_items, bare_item-Plain, bare_item-Style, bare_item-Group, bare_item-Passed, bare_item-Other, filled_item, filled_items, filled_item-Plain, filled_item-Style, filled_item-Group, filled_item-Passed, filled_item-Other, group_round, rule_round}
use Rattle.sheet_types.specs.Conditions.{bare_condition}
use Rattle.sheet_types.specs.Contexts.{Context, under_condition, under_list}
use Rattle.sheet_types.specs.ItemFold.{Steps, folded, folded-Plain, folded-Style, folded-Group, folded-Passed, folded-Other}
use Rattle.sheet_types.specs.ItemInduction.{Each, by_items}
use Rattle.sheet_types.specs.PassedRules.{keyword_of}
use Rattle.sheet_types.specs.Runs.{run_of}
use Rattle.sheet_types.specs.Statements.{BareDeclaration, BarePassed, Saying, Statement, Declares, Passes, bare_declaration, says, say_all, says-Plain, says-Style, says-Group, says-Passed, says-Other}

-- Places.

abbrev as_it_is : Declaration → BareDeclaration
as_it_is d = record { name = d.name; value = d.value; important = d.important }

abbrev rule_as_it_is : Passed → BarePassed
rule_as_it_is rule = record { keyword = keyword_of rule.kind; prelude = text_of rule.prelude; block = text_of rule.block }

-- what is told by items whose places are off already
abbrev telling : Steps Saying
telling = record {
  plain = λ ds c. map (λ d. Declares c (as_it_is d)) ds;
  style = λ selectors at inner c. flat_map (λ (tells : Saying). tells (under_list selectors c)) inner;
  group = λ condition at inner c. flat_map (λ (tells : Saying). tells (under_condition condition c)) inner;
  passed = λ rule c. Passes c (rule_as_it_is rule) ∷ [];
  other = λ at c. [];
}

abbrev tells : Item → Saying
tells = folded telling

abbrev tell_all : List Item → Saying
tell_all items c = flat_map (λ item. tells item c) items

tells-Style : (s : style.Style) (c : Context) → tells (item.Style s) c ≡ tell_all s.items (under_list s.selectors c)
tells-Style s c = ap (λ (f : Saying). f c) (folded-Style telling s) ∙ flat_map-map (λ (f : Saying). f (under_list s.selectors c)) tells s.items

tells-Group : (g : group.Group) (c : Context) → tells (item.Group g) c ≡ tell_all g.items (under_condition g.condition c)
tells-Group g c = ap (λ (f : Saying). f c) (folded-Group telling g) ∙ flat_map-map (λ (f : Saying). f (under_condition g.condition c)) tells g.items

tells-Passed : (rule : Passed) (c : Context) → tells (item.Passed rule) c ≡ Passes c (rule_as_it_is rule) ∷ []
tells-Passed rule c = ap (λ (f : Saying). f c) (folded-Passed telling rule)

tells-Other : (at : ℕ) (c : Context) → tells (item.Other at) c ≡ []
tells-Other at c = ap (λ (f : Saying). f c) (folded-Other telling at)

declares-bare : (c : Context) (ds : List Declaration) → map (λ d. Declares c (bare_declaration d)) ds ≡ map (λ d. Declares c (as_it_is d)) (map bared ds)
declares-bare c [] = refl
declares-bare c (d ∷ ds) = ap (λ (ss : List Statement). Declares c (bare_declaration d) ∷ ss) (declares-bare c ds)

abbrev IsTold : Item → Type 0
IsTold x = (c : Context) → says x c ≡ tells (bare_item x) c

all-told : (xs : List Item) → Each IsTold xs → (c : Context) → say_all xs c ≡ tell_all (bare_items xs) c
all-told [] each c = refl
all-told (x ∷ xs) each c = ap (λ ss. ss ++ say_all xs c) (each.0 c) ∙ ap (λ ss. tells (bare_item x) c ++ ss) (all-told xs each.1 c)

told : (x : Item) → IsTold x
told x =
    by_items IsTold (record {
      plain = λ ds c. says-Plain ds c ∙ declares-bare c ds ∙ sym (ap (λ (y : Item). tells y c) (bare_item-Plain ds) ∙ ap (λ (f : Saying). f c) (folded-Plain telling (map bared ds)));
      style = λ s each c.
          let bare : style.Style = record { selectors = map erased s.selectors; items = bare_items s.items; at = 0 } in
          says-Style s c ∙ all-told s.items each (under_list (map erased s.selectors) c) ∙ sym (ap (λ (y : Item). tells y c) (bare_item-Style s) ∙ tells-Style bare c);
      group = λ g each c.
          let bare : group.Group = record { condition = bare_condition g.condition; items = bare_items g.items; at = 0 } in
          says-Group g c ∙ all-told g.items each (under_condition (bare_condition g.condition) c) ∙ sym (ap (λ (y : Item). tells y c) (bare_item-Group g) ∙ tells-Group bare c);
      passed = λ rule c. says-Passed rule c ∙ sym (ap (λ (y : Item). tells y c) (bare_item-Passed rule) ∙ tells-Passed (bared_rule rule) c);
      other = λ at c. says-Other at c ∙ sym (ap (λ (y : Item). tells y c) (bare_item-Other at) ∙ tells-Other 0 c);
    }) x

every-told : (xs : List Item) → Each IsTold xs
every-told [] = tt
every-told (x ∷ xs) = (told x, every-told xs)

pub same-said : (a b : List Item) (c : Context) → bare_items a ≡ bare_items b → say_all a c ≡ say_all b c
same-said a b c same = all-told a (every-told a) c ∙ ap (λ (xs : List Item). tell_all xs c) same ∙ sym (all-told b (every-told b) c)

-- Rules and groups that declare nothing.

round-tells : (list : List Selector) (at : ℕ) (xs : List Item) (c : Context) → tell_all (rule_round list at xs) c ≡ tell_all xs (under_list list c)
round-tells list at [] c = refl
round-tells list at (x ∷ xs) c =
    let rule : style.Style = record { selectors = list; items = x ∷ xs; at = at } in
    append-nil (tells (item.Style rule) c) ∙ tells-Style rule c

group-tells : (condition : GroupCondition) (at : ℕ) (xs : List Item) (c : Context) → tell_all (group_round condition at xs) c ≡ tell_all xs (under_condition condition c)
group-tells condition at [] c = refl
group-tells condition at (x ∷ xs) c =
    let whole : group.Group = record { condition = condition; items = x ∷ xs; at = at } in
    append-nil (tells (item.Group whole) c) ∙ tells-Group whole c

run-tells : (ds : List Declaration) (c : Context) → tell_all (run_of ds) c ≡ tells (item.Plain ds) c
run-tells [] c = sym (ap (λ (f : Saying). f c) (folded-Plain telling []))
run-tells (d ∷ ds) c = append-nil (tells (item.Plain (d ∷ ds)) c)

abbrev IsFilled : Item → Type 0
IsFilled x = (c : Context) → tell_all (filled_item x) c ≡ tells x c

all-filled : (xs : List Item) → Each IsFilled xs → (c : Context) → tell_all (filled_items xs) c ≡ tell_all xs c
all-filled [] each c = refl
all-filled (x ∷ xs) each c =
    flat_map-append (λ i. tells i c) (filled_item x) (filled_items xs)
    ∙ ap (λ ss. ss ++ tell_all (filled_items xs) c) (each.0 c)
    ∙ ap (λ ss. tells x c ++ ss) (all-filled xs each.1 c)

filled : (x : Item) → IsFilled x
filled x =
    by_items IsFilled (record {
      plain = λ ds c. ap (λ (xs : List Item). tell_all xs c) (filled_item-Plain ds) ∙ run-tells ds c;
      style = λ s each c.
          ap (λ (xs : List Item). tell_all xs c) (filled_item-Style s)
          ∙ round-tells s.selectors s.at (filled_items s.items) c
          ∙ all-filled s.items each (under_list s.selectors c)
          ∙ sym (tells-Style s c);
      group = λ g each c.
          ap (λ (xs : List Item). tell_all xs c) (filled_item-Group g)
          ∙ group-tells g.condition g.at (filled_items g.items) c
          ∙ all-filled g.items each (under_condition g.condition c)
          ∙ sym (tells-Group g c);
      passed = λ rule c. ap (λ (xs : List Item). tell_all xs c) (filled_item-Passed rule) ∙ append-nil (tells (item.Passed rule) c);
      other = λ at c. ap (λ (xs : List Item). tell_all xs c) (filled_item-Other at) ∙ sym (tells-Other at c);
    }) x

every-filled : (xs : List Item) → Each IsFilled xs
every-filled [] = tt
every-filled (x ∷ xs) = (filled x, every-filled xs)

pub filled-said : (a b : List Item) (c : Context) → bare_items a ≡ filled_items (bare_items b) → say_all a c ≡ say_all b c
filled-said a b c same =
    all-told a (every-told a) c
    ∙ ap (λ (xs : List Item). tell_all xs c) same
    ∙ all-filled (bare_items b) (every-filled (bare_items b)) c
    ∙ sym (all-told b (every-told b) c)
