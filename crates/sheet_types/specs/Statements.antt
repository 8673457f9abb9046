-- What a sheet says, places aside: in order of position, each declaration and each rule that is passed on, with what stands round it.
use Rattle.std.specs.Prelude.{ℕ, List, [], ◌∷◌, map, flat_map, ◌≡◌, Bool}
use Rattle.std.proofs.Common.{◌∙◌, ap}
use Rattle.std.proofs.lemmas.List.Folds.{flat_map-map}
use Rattle.css_tokens.specs.declared.component.Component.{Component}
use Rattle.sheet_types.specs.declared.sheet.Declaration.{Declaration}
use Rattle.sheet_types.specs.declared.sheet.Item.{Item}
use Rattle.sheet_types.specs.declared.sheet.Item as item
use Rattle.sheet_types.specs.declared.sheet.Group as group
use Rattle.sheet_types.specs.declared.sheet.Passed.{Passed}
use Rattle.sheet_types.specs.declared.sheet.Style as style
use Rattle.sheet_types.specs.declared.sheet.Sheet.{Sheet}
use Rattle.selector_types.specs.Erased.{erased}
use Rattle.selector_types.specs.Spelling.{text_of}
use Rattle.sheet_types.specs.Conditions.{bare_condition}
use Rattle.sheet_types.specs.Contexts.{LayerPath, Context, outside, under_condition, under_list}
use Rattle.sheet_types.specs.ItemFold.{Steps, folded, folded-Plain, folded-Style, folded-Group, folded-Passed, folded-Other}
use Rattle.sheet_types.specs.Erased.{bare_value}
use Rattle.sheet_types.specs.PassedRules.{keyword_of}

-- a declaration without its place, and with its value as text
pub record BareDeclaration : Type 0 where
  pub name : List ℕ
  pub value : List Component
  pub important : Bool

-- the declaration without its place, and with its value as the text that it prints as
abbrev pub bare_declaration : Declaration → BareDeclaration
bare_declaration d = record { name = d.name; value = bare_value d.value; important = d.important }

-- a rule that is passed on as text, such as `@font-face`: the name of its at-keyword, and the texts of its prelude and of its block
pub record BarePassed : Type 0 where
  pub keyword : List ℕ
  pub prelude : List ℕ
  pub block : List ℕ

-- the rule without its place, and with the texts that it prints as
abbrev pub bare_passed : Passed → BarePassed
bare_passed rule = record { keyword = keyword_of rule.kind; prelude = text_of (bare_value rule.prelude); block = text_of (bare_value rule.block) }

-- one thing that a sheet says: a declaration, a rule that is passed on, or that it mentions a layer
pub data Statement : Type 0 where
  Declares : Context → BareDeclaration → Statement
  Passes : Context → BarePassed → Statement
  Mentions : Context → LayerPath → Statement

-- what an item says inside what is round it
abbrev pub Saying : Type 0
Saying = Context → List Statement

-- Declarations say themselves, a style rule what its items say inside its selector list, and a group what its items say under its condition. A rule that is passed on says itself, and any other at-rule nothing.
abbrev pub saying : Steps Saying
saying = record {
  plain = λ ds c. map (λ d. Declares c (bare_declaration d)) ds;
  style = λ selectors at inner c. flat_map (λ (says : Saying). says (under_list (map erased selectors) c)) inner;
  group = λ condition at inner c. flat_map (λ (says : Saying). says (under_condition (bare_condition condition) c)) inner;
  passed = λ rule c. Passes c (bare_passed rule) ∷ [];
  other = λ at c. [];
}

-- what an item says inside what is round it
abbrev pub says : Item → Saying
says = folded saying

-- what items say one after another
abbrev pub say_all : List Item → Saying
say_all items c = flat_map (λ item. says item c) items

-- what a sheet says
abbrev pub statements_of : Sheet → List Statement
statements_of sheet = say_all sheet.items outside

-- Declarations say themselves.
pub says-Plain : (ds : List Declaration) (c : Context) → says (item.Plain ds) c ≡ map (λ d. Declares c (bare_declaration d)) ds
says-Plain ds c = ap (λ (f : Saying). f c) (folded-Plain saying ds)

-- A style rule says what its items say inside its selector list.
pub says-Style : (s : style.Style) (c : Context) → says (item.Style s) c ≡ say_all s.items (under_list (map erased s.selectors) c)
says-Style s c = ap (λ (f : Saying). f c) (folded-Style saying s) ∙ flat_map-map (λ (f : Saying). f (under_list (map erased s.selectors) c)) says s.items

-- A group says what its items say under its condition.
pub says-Group : (g : group.Group) (c : Context) → says (item.Group g) c ≡ say_all g.items (under_condition (bare_condition g.condition) c)
says-Group g c = ap (λ (f : Saying). f c) (folded-Group saying g) ∙ flat_map-map (λ (f : Saying). f (under_condition (bare_condition g.condition) c)) says g.items

-- A rule that is passed on says itself.
pub says-Passed : (rule : Passed) (c : Context) → says (item.Passed rule) c ≡ Passes c (bare_passed rule) ∷ []
says-Passed rule c = ap (λ (f : Saying). f c) (folded-Passed saying rule)

-- Any other at-rule says nothing.
pub says-Other : (at : ℕ) (c : Context) → says (item.Other at) c ≡ []
says-Other at c = ap (λ (f : Saying). f c) (folded-Other saying at)
