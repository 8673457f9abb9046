-- Which sheets hold nothing that older browsers do not read (this project's own, after Selectors 3, sections 5 to 8, Media Queries 3,
-- Conditional Rules 3 and CSS Logical 1).
use Rattle.std.specs.Prelude.{ℕ, List, [], ◌∷◌, ◌≡◌, Bool, true, false, not, ◌&&◌, ◌||◌, is_none, codes}
use Rattle.std.specs.List.{list_all, list_any}
use Rattle.std.proofs.Common.{map, refl, ◌∙◌, ap, ap₂}
use Rattle.std.proofs.lemmas.List.Folds.{list_all-map}
use Rattle.css_tokens.specs.Trees.{is_text}
use Rattle.css_tokens.specs.declared.component.Component.{Component}
use Rattle.selector_types.specs.LoneSimples.{Opened, is_one_simple}
use Rattle.selector_types.specs.PartsWithin.{selector_parts}
use Rattle.selector_types.specs.declared.selector.Link.TheOpen.{Class, Id, Attribute, Pseudo, Not, Is, Where, Parent, Local, Global, Foreign}
use Rattle.selector_types.specs.declared.selector.Part as part
use Rattle.selector_types.specs.declared.selector.Selector.{Selector}
use Rattle.selector_types.specs.declared.selector.Simple.{Simple}
use Rattle.selector_types.specs.declared.selector.Simple as simple
use Rattle.css_components.specs.Components.{head, is_ident, is_keyword, name_of}
use Rattle.css_components.specs.Trimming.{trimmed}
use Rattle.sheet_types.specs.declared.sheet.Declaration.{Declaration}
use Rattle.sheet_types.specs.declared.sheet.Item.{Item}
use Rattle.sheet_types.specs.declared.sheet.Item as item
use Rattle.sheet_types.specs.declared.sheet.Group as group
use Rattle.sheet_types.specs.declared.sheet.GroupCondition.{GroupCondition}
use Rattle.sheet_types.specs.declared.sheet.GroupCondition.TheVariants.{Media, Supports}
use Rattle.sheet_types.specs.declared.sheet.Passed.{Passed}
use Rattle.sheet_types.specs.declared.sheet.Style as style
use Rattle.sheet_types.specs.declared.sheet.Sheet.{Sheet}
use Rattle.sheet_types.specs.ItemFold.{Steps, folded, folded-Plain, folded-Style, folded-Group, folded-Passed, folded-Other}
use Rattle.prop_table.specs.LogicalProperties.{is_logical}
use Rattle.target_check.specs.MediaTargets.{is_target_list}

-- Selectors.

-- Do older browsers read it? They read classes, ids, pseudo-classes, attribute selectors without a flag, and `:not` of one simple selector.
abbrev pub is_old_opened : Opened → Bool
is_old_opened (Class name) = true
is_old_opened (Id name) = true
is_old_opened (Pseudo text) = true
is_old_opened (Attribute a) = not a.flag
is_old_opened (Not ss) = is_one_simple ss
is_old_opened (Is ss) = false
is_old_opened (Where ss) = false
is_old_opened Parent = false
is_old_opened (Local k) = false
is_old_opened (Global k) = false
is_old_opened Foreign = false

-- the same of a simple selector
abbrev pub is_old_simple : Simple → Bool
is_old_simple x = is_old_opened (simple.out-Simple x)

-- the same of a part
abbrev pub is_old_part : part.Part → Bool
is_old_part (part.Placed x at) = is_old_simple x

-- are all parts of the selector so, at any depth, and does no combinator lead it?
abbrev pub is_old_selector : Selector → Bool
is_old_selector s = is_none s.lead && list_all is_old_part (selector_parts s)

-- Declarations.

-- is the component this keyword, in any case of letters?
abbrev pub is_the_keyword : List ℕ → Component → Bool
is_the_keyword keyword c = is_ident c && is_keyword keyword (name_of (head c))

-- is the keyword alone in the list?
abbrev pub is_lone : List ℕ → List Component → Bool
is_lone keyword [] = false
is_lone keyword (c ∷ []) = is_the_keyword keyword c
is_lone keyword (c ∷ d ∷ cs) = false

-- is the value this keyword, white space and comments aside?
abbrev pub is_lone_keyword : List ℕ → List Component → Bool
is_lone_keyword keyword value = is_lone keyword (trimmed value)

-- is the value a side of the inline axis?
abbrev pub is_side : List Component → Bool
is_side value = is_lone_keyword (codes "inline-start") value || is_lone_keyword (codes "inline-end") value

-- is it an axis?
abbrev pub is_axis : List Component → Bool
is_axis value = is_lone_keyword (codes "inline") value || is_lone_keyword (codes "block") value

-- Does a physical property get a value that the flow of the text gives a meaning: `float` and `clear` a side, `resize` an axis (CSS Logical 1, sections 2.2 and 2.4)?
abbrev pub is_flow_value : List ℕ → List Component → Bool
is_flow_value name value =
    ((is_text name (codes "float") || is_text name (codes "clear")) && is_side value)
    || (is_text name (codes "resize") && is_axis value)

-- is it a property that older browsers know, and so not `composes` of CSS Modules, and no logical one?
abbrev pub is_old_property : List ℕ → Bool
is_old_property name = not (is_text name (codes "composes")) && not (is_logical name)

-- Do older browsers know the declaration: is its property such a one, without such a value?
abbrev pub is_old_declaration : Declaration → Bool
is_old_declaration d = is_old_property d.name && not (is_flow_value d.name d.value)

-- Rules.

-- is there something in the list?
abbrev pub has_some : {A : Type 0} → List A → Bool
has_some [] = false
has_some (x ∷ xs) = true

-- a media list of a target sheet, or any supports condition
abbrev pub is_old_condition : GroupCondition → Bool
is_old_condition (Media list) = is_target_list list
is_old_condition (Supports condition) = true

-- What an item is to older browsers. As an item of the block of a style rule: is it declarations that they know, and does it declare anything? As an item of a sheet or of a group: do they read all of it?
pub record Age : Type 0 where
  pub run : Bool
  pub declares : Bool
  pub old : Bool

-- neither declarations nor anything that they read
abbrev pub young : Age
young = record { run = false; declares = false; old = false }

-- Older browsers read a style rule that declares something, holds no rule or group, and has selectors that they read; a group that holds something, each of it an item that they read, under a condition that they read; and a rule that is passed on.
abbrev pub aging : Steps Age
aging = record {
  plain = λ ds. record { run = list_all is_old_declaration ds; declares = has_some ds; old = false };
  style = λ selectors at inner. record { run = false; declares = false; old = list_all is_old_selector selectors && (list_all (λ (age : Age). age.run) inner && list_any (λ (age : Age). age.declares) inner) };
  group = λ condition at inner. record { run = false; declares = false; old = is_old_condition condition && (has_some inner && list_all (λ (age : Age). age.old) inner) };
  passed = λ rule. record { run = false; declares = false; old = true };
  other = λ at. young;
}

abbrev pub age : Item → Age
age = folded aging

-- an item of a style rule's block: declarations that older browsers know
abbrev pub is_run : Item → Bool
is_run x = (age x).run

-- does the item declare anything?
abbrev pub declares : Item → Bool
declares x = (age x).declares

-- an item of a sheet or of a group that older browsers read
abbrev pub is_old_item : Item → Bool
is_old_item x = (age x).old

-- Is it a target sheet: has it no import, and is each item of it so?
abbrev pub is_target : Sheet → Bool
is_target sheet = not (has_some sheet.imports) && list_all is_old_item sheet.items

-- Equations.

list_any-map : {X Y : Type 0} (p : Y → Bool) (f : X → Y) (xs : List X) → list_any p (map f xs) ≡ list_any (λ x. p (f x)) xs
list_any-map p f [] = refl
list_any-map p f (x ∷ xs) = ap (λ b. p (f x) || b) (list_any-map p f xs)

has_some-map : {X Y : Type 0} (f : X → Y) (xs : List X) → has_some (map f xs) ≡ has_some xs
has_some-map f [] = refl
has_some-map f (x ∷ xs) = refl

pub age-Plain : (ds : List Declaration) → age (item.Plain ds) ≡ record { run = list_all is_old_declaration ds; declares = has_some ds; old = false }
age-Plain ds = folded-Plain aging ds

pub age-Style : (s : style.Style) → age (item.Style s) ≡ record { run = false; declares = false; old = list_all is_old_selector s.selectors && (list_all is_run s.items && list_any declares s.items) }
age-Style s =
    folded-Style aging s
    ∙ ap₂ (λ runs fills. record { run = false; declares = false; old = list_all is_old_selector s.selectors && (runs && fills) })
    (list_all-map (λ (a : Age). a.run) age s.items)
    (list_any-map (λ (a : Age). a.declares) age s.items)

pub age-Group : (g : group.Group) → age (item.Group g) ≡ record { run = false; declares = false; old = is_old_condition g.condition && (has_some g.items && list_all is_old_item g.items) }
age-Group g =
    folded-Group aging g
    ∙ ap₂ (λ fills olds. record { run = false; declares = false; old = is_old_condition g.condition && (fills && olds) })
    (has_some-map age g.items)
    (list_all-map (λ (a : Age). a.old) age g.items)

pub age-Passed : (rule : Passed) → age (item.Passed rule) ≡ record { run = false; declares = false; old = true }
age-Passed rule = folded-Passed aging rule

pub age-Other : (at : ℕ) → age (item.Other at) ≡ young
age-Other at = folded-Other aging at
