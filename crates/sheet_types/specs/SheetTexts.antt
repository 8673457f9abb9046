-- How a sheet prints (CSSOM, sections 6.4 and 6.7; Conditional Rules 3, section 2; this project's own choice of white space).
use Rattle.std.specs.Prelude.{ℕ, List, [], ◌∷◌, ◌++◌, ◌≡◌, map, flat_map, Bool, codes, Option, Some, None, if◌then◌else◌}
use Rattle.std.proofs.Common.{◌∙◌, ap}
use Rattle.std.proofs.lemmas.List.Folds.{flat_map-map}
use Rattle.css_tokens.specs.declared.component.Component.{Component}
use Rattle.css_tokens.specs.NameText.{name_text}
use Rattle.css_tokens.specs.StringText.{string_text}
use Rattle.css_tokens.specs.Values.{value_text}
use Rattle.sheet_types.specs.declared.sheet.Declaration.{Declaration}
use Rattle.media_spelling.specs.Spelling.{queries_text, supports_text}
use Rattle.media_spelling.specs.declared.supports.Supports as condition
use Rattle.sheet_types.specs.declared.sheet.Group as group
use Rattle.sheet_types.specs.declared.sheet.GroupCondition.{GroupCondition}
use Rattle.sheet_types.specs.declared.sheet.GroupCondition.TheVariants.{Media, Supports}
use Rattle.sheet_types.specs.declared.sheet.Import.{Import}
use Rattle.sheet_types.specs.declared.sheet.Item.{Item}
use Rattle.sheet_types.specs.declared.sheet.Item as item
use Rattle.sheet_types.specs.declared.sheet.Passed.{Passed}
use Rattle.sheet_types.specs.declared.sheet.Style as style
use Rattle.sheet_types.specs.declared.sheet.Sheet.{Sheet}
use Rattle.selector_types.specs.declared.selector.Selector.{Selector}
use Rattle.selector_types.specs.Spelling.{list_text}
use Rattle.sheet_types.specs.ItemFold.{Steps, folded, folded-Plain, folded-Style, folded-Group, folded-Passed, folded-Other}
use Rattle.sheet_types.specs.PassedRules.{keyword_of}

-- the text of a value; an empty one prints as one space
abbrev pub printed_value : List Component → List ℕ
printed_value [] = codes " "
printed_value (c ∷ cs) = value_text (c ∷ cs)

-- the mark of importance, where there is one
abbrev pub importance_text : Bool → List ℕ
importance_text important = if important then codes "!important" else []

-- a name, a colon, the value, and the mark of importance
abbrev pub declaration_text : Declaration → List ℕ
declaration_text d = name_text d.name ++ (codes ":" ++ (printed_value d.value ++ importance_text d.important))

-- further declarations, each behind a semicolon
abbrev pub more_declarations : List Declaration → List ℕ
more_declarations ds = flat_map (λ d. codes ";" ++ declaration_text d) ds

-- declarations joined by semicolons
abbrev pub declarations_text : List Declaration → List ℕ
declarations_text [] = []
declarations_text (d ∷ ds) = declaration_text d ++ more_declarations ds

-- declarations, each with a semicolon behind it
abbrev pub ended_declarations : List Declaration → List ℕ
ended_declarations ds = flat_map (λ d. declaration_text d ++ codes ";") ds

-- the text of an item that is alone in its block, and its text among others
pub record ItemText : Type 0 where
  pub alone : List ℕ
  pub among : List ℕ

-- the texts of items one after another
abbrev pub among_text : List ItemText → List ℕ
among_text items = flat_map (λ (item : ItemText). item.among) items

-- the text of what stands in the block of a style rule
abbrev pub block_text : List ItemText → List ℕ
block_text [] = []
block_text (item ∷ []) = item.alone
block_text (first ∷ second ∷ items) = among_text (first ∷ second ∷ items)

-- a selector list, what is in its block, and a line feed
abbrev pub braced_text : List Selector → List ℕ → List ℕ
braced_text list inside = list_text list ++ (codes "{" ++ (inside ++ (codes "}" ++ 10 ∷ [])))

-- the text of a style rule, which is not printed where nothing in its block is
abbrev pub rule_text : List Selector → List ℕ → List ℕ
rule_text list [] = []
rule_text list (c ∷ cs) = braced_text list (c ∷ cs)

-- what stands behind an at-keyword: a space and the text, where there is any
abbrev pub behind_keyword : List ℕ → List ℕ
behind_keyword [] = []
behind_keyword (c ∷ text) = codes " " ++ (c ∷ text)

-- the at-keyword of a group, and its condition
abbrev pub condition_text : GroupCondition → List ℕ
condition_text (Media queries) = codes "@media" ++ behind_keyword (queries_text queries)
condition_text (Supports condition) = codes "@supports" ++ behind_keyword (supports_text condition)

-- the text of a group, its block on lines of its own; it is not printed where nothing in its block is
abbrev pub group_text : GroupCondition → List ℕ → List ℕ
group_text condition [] = []
group_text condition (c ∷ cs) = condition_text condition ++ (codes "{" ++ (10 ∷ (c ∷ cs) ++ (codes "}" ++ 10 ∷ [])))

-- the text of a rule that is passed on: its at-keyword, its prelude and its block, and a line feed
abbrev pub passed_text : Passed → List ℕ
passed_text rule = codes "@" ++ (keyword_of rule.kind ++ (behind_keyword (value_text rule.prelude) ++ (codes "{" ++ (value_text rule.block ++ (codes "}" ++ 10 ∷ [])))))

-- an item that prints alike alone and among others
abbrev pub either_way : List ℕ → ItemText
either_way text = record { alone = text; among = text }

-- Declarations have semicolons between them where they are alone in the block of a style rule, and else behind each. Rules and groups print alike. Any other at-rule is not printed.
abbrev pub printing : Steps ItemText
printing = record {
  plain = λ ds. record { alone = declarations_text ds; among = ended_declarations ds };
  style = λ selectors at inner. either_way (rule_text selectors (block_text inner));
  group = λ condition at inner. either_way (group_text condition (among_text inner));
  passed = λ rule. either_way (passed_text rule);
  other = λ at. either_way [];
}

-- the text of an item, alone and among others
abbrev pub printed_item : Item → ItemText
printed_item = folded printing

-- the text of items one after another
abbrev pub items_text : List Item → List ℕ
items_text items = flat_map (λ item. (printed_item item).among) items

-- the condition of an import, where it has one
abbrev pub import_supports_text : Option condition.Supports → List ℕ
import_supports_text None = []
import_supports_text (Some condition) = codes " supports(" ++ (supports_text condition ++ codes ")")

-- the text of an import: its target as a string, then its conditions, each behind a space, and a line feed
abbrev pub import_text : Import → List ℕ
import_text i = codes "@import " ++ (string_text i.target ++ (import_supports_text i.supports ++ (behind_keyword (queries_text i.media) ++ (codes ";" ++ 10 ∷ []))))

-- the imports and the items of a sheet, one after another
abbrev pub sheet_text : Sheet → List ℕ
sheet_text sheet = flat_map import_text sheet.imports ++ items_text sheet.items

-- Declarations print so.
pub printed_item-Plain : (ds : List Declaration) → printed_item (item.Plain ds) ≡ record { alone = declarations_text ds; among = ended_declarations ds }
printed_item-Plain ds = folded-Plain printing ds

-- A style rule has the texts of its items in its block.
pub printed_item-Style : (s : style.Style) → printed_item (item.Style s) ≡ either_way (rule_text s.selectors (block_text (map printed_item s.items)))
printed_item-Style s = folded-Style printing s

-- A group has the texts of its items in its block, each as among others.
pub printed_item-Group : (g : group.Group) → printed_item (item.Group g) ≡ either_way (group_text g.condition (items_text g.items))
printed_item-Group g = folded-Group printing g ∙ ap (λ text. either_way (group_text g.condition text)) (flat_map-map (λ (item : ItemText). item.among) printed_item g.items)

-- A rule that is passed on prints so.
pub printed_item-Passed : (rule : Passed) → printed_item (item.Passed rule) ≡ either_way (passed_text rule)
printed_item-Passed rule = folded-Passed printing rule

-- Any other at-rule is not printed.
pub printed_item-Other : (at : ℕ) → printed_item (item.Other at) ≡ either_way []
printed_item-Other at = folded-Other printing at
