-- Items as they are printed: with each place at 0, and without the rules and groups that declare nothing.
use Rattle.std.specs.Prelude.{ℕ, List, [], ◌∷◌, map, flat_map, ◌≡◌}
use Rattle.std.specs.Option.{option_map}
use Rattle.std.proofs.Common.{◌∙◌, ap}
use Rattle.std.proofs.lemmas.List.Folds.{flat_map-map}
use Rattle.media_spelling.specs.Places.{bare_supports}
use Rattle.media_spelling.specs.SupportsAgain.{supports_again}
use Rattle.selector_types.specs.Erased.{erased}
use Rattle.selector_types.specs.declared.selector.Selector.{Selector}
use Rattle.sheet_types.specs.declared.sheet.Declaration.{Declaration}
use Rattle.sheet_types.specs.declared.sheet.Group as group
use Rattle.sheet_types.specs.declared.sheet.GroupCondition.{GroupCondition}
use Rattle.sheet_types.specs.declared.sheet.Item.{Item}
use Rattle.sheet_types.specs.declared.sheet.Item as item
use Rattle.sheet_types.specs.declared.sheet.Import.{Import}
use Rattle.sheet_types.specs.declared.sheet.Passed.{Passed}
use Rattle.sheet_types.specs.declared.sheet.Sheet.{Sheet}
use Rattle.sheet_types.specs.declared.sheet.Style as style
use Rattle.sheet_types.specs.Erased.{bare_value}
use Rattle.sheet_types.specs.Conditions.{bare_condition}
use Rattle.sheet_types.specs.ItemFold.{Steps, folded, folded-Plain, folded-Style, folded-Group, folded-Passed, folded-Other}
use Rattle.sheet_types.specs.Runs.{run_of}

-- Places.

-- the declaration at the place 0, with its value as it is printed
abbrev pub bared : Declaration → Declaration
bared d = record { name = d.name; value = bare_value d.value; important = d.important; at = 0 }

-- the rule that is passed on at the place 0, with its prelude and its block as they are printed
abbrev pub bared_rule : Passed → Passed
bared_rule rule = record { kind = rule.kind; prelude = bare_value rule.prelude; block = bare_value rule.block; at = 0 }

-- each at the place 0: declarations, a style rule with its selectors and its items so, a group with its condition and its items so, a rule that is passed on, and any other at-rule
abbrev pub baring : Steps Item
baring = record {
  plain = λ ds. item.Plain (map bared ds);
  style = λ selectors at inner. item.Style (record { selectors = map erased selectors; items = inner; at = 0 });
  group = λ condition at inner. item.Group (record { condition = bare_condition condition; items = inner; at = 0 });
  passed = λ rule. item.Passed (bared_rule rule);
  other = λ at. item.Other 0;
}

-- the item with each place at 0, and each value as it is printed
abbrev pub bare_item : Item → Item
bare_item = folded baring

-- the items so
abbrev pub bare_items : List Item → List Item
bare_items items = map bare_item items

-- the import at the place 0, with its condition as it prints
abbrev pub bare_import : Import → Import
bare_import i = record { target = i.target; supports = option_map (λ condition. bare_supports (supports_again condition)) i.supports; media = i.media; at = 0 }

-- the sheet of these items, with no import
abbrev pub importless : List Item → Sheet
importless items = record { imports = []; items = items }

-- the imports and the items of a sheet so
abbrev pub bare_sheet : Sheet → Sheet
bare_sheet sheet = record { imports = map bare_import sheet.imports; items = bare_items sheet.items }

-- Rules and groups that declare nothing.

-- a style rule round these items, where there are any
abbrev pub rule_round : List Selector → ℕ → List Item → List Item
rule_round selectors at [] = []
rule_round selectors at (x ∷ xs) = item.Style (record { selectors = selectors; items = x ∷ xs; at = at }) ∷ []

-- a group round these items, where there are any
abbrev pub group_round : GroupCondition → ℕ → List Item → List Item
group_round condition at [] = []
group_round condition at (x ∷ xs) = item.Group (record { condition = condition; items = x ∷ xs; at = at }) ∷ []

-- Declarations where there are any, a style rule and a group where anything is left in it, and a rule that is passed on. Any other at-rule declares nothing.
abbrev pub filling : Steps (List Item)
filling = record {
  plain = run_of;
  style = λ selectors at inner. rule_round selectors at (flat_map (λ (items : List Item). items) inner);
  group = λ condition at inner. group_round condition at (flat_map (λ (items : List Item). items) inner);
  passed = λ rule. item.Passed rule ∷ [];
  other = λ at. [];
}

-- the item without the rules and groups in it that declare nothing; nothing where it is such a one itself
abbrev pub filled_item : Item → List Item
filled_item = folded filling

-- the items without the rules and groups that declare nothing
abbrev pub filled_items : List Item → List Item
filled_items items = flat_map filled_item items

-- Equations.

pub bare_item-Plain : (ds : List Declaration) → bare_item (item.Plain ds) ≡ item.Plain (map bared ds)
bare_item-Plain ds = folded-Plain baring ds

pub bare_item-Style : (s : style.Style) → bare_item (item.Style s) ≡ item.Style (record { selectors = map erased s.selectors; items = bare_items s.items; at = 0 })
bare_item-Style s = folded-Style baring s

pub bare_item-Group : (g : group.Group) → bare_item (item.Group g) ≡ item.Group (record { condition = bare_condition g.condition; items = bare_items g.items; at = 0 })
bare_item-Group g = folded-Group baring g

pub bare_item-Passed : (rule : Passed) → bare_item (item.Passed rule) ≡ item.Passed (bared_rule rule)
bare_item-Passed rule = folded-Passed baring rule

pub bare_item-Other : (at : ℕ) → bare_item (item.Other at) ≡ item.Other 0
bare_item-Other at = folded-Other baring at

pub filled_item-Plain : (ds : List Declaration) → filled_item (item.Plain ds) ≡ run_of ds
filled_item-Plain ds = folded-Plain filling ds

pub filled_item-Style : (s : style.Style) → filled_item (item.Style s) ≡ rule_round s.selectors s.at (filled_items s.items)
filled_item-Style s = folded-Style filling s ∙ ap (rule_round s.selectors s.at) (flat_map-map (λ (items : List Item). items) filled_item s.items)

pub filled_item-Group : (g : group.Group) → filled_item (item.Group g) ≡ group_round g.condition g.at (filled_items g.items)
filled_item-Group g = folded-Group filling g ∙ ap (group_round g.condition g.at) (flat_map-map (λ (items : List Item). items) filled_item g.items)

pub filled_item-Passed : (rule : Passed) → filled_item (item.Passed rule) ≡ item.Passed rule ∷ []
filled_item-Passed rule = folded-Passed filling rule

pub filled_item-Other : (at : ℕ) → filled_item (item.Other at) ≡ []
filled_item-Other at = folded-Other filling at
