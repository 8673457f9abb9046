-- Functions of items by one step for each kind of item.
use Rattle.std.specs.Prelude.{ℕ, List, map, ◌≡◌}
use Rattle.std.proofs.Common.{◌∙◌, ap}
use Rattle.selector_types.specs.declared.selector.Selector.{Selector}
use Rattle.sheet_types.specs.declared.sheet.Declaration.{Declaration}
use Rattle.sheet_types.specs.declared.sheet.GroupCondition.{GroupCondition}
use Rattle.sheet_types.specs.declared.sheet.Passed.{Passed as PassedRule}
use Rattle.sheet_types.specs.declared.sheet.Item.{Item}
use Rattle.sheet_types.specs.declared.sheet.Item as item
use Rattle.sheet_types.specs.declared.sheet.Group as group
use Rattle.sheet_types.specs.declared.sheet.Style as style
use Rattle.sheet_types.specs.declared.sheet.Item.TheVariants.{outs-Style, outs-Plain, outs-Group, outs-Passed, outs-Other}
use Rattle.sheet_types.specs.declared.sheet.Item.TheOpen.{Item-F, Style, Plain, Group, Passed, Other, Group-F, Style-F}
use Rattle.sheet_types.specs.declared.sheet.Item.TheFolds.{fold-Item, fold_out-Item}

-- what is made of each kind of item, from what is made of the items in it
pub record Steps (A : Type 0) : Type 0 where
  pub plain : List Declaration → A
  pub style : List Selector → ℕ → List A → A
  pub group : GroupCondition → ℕ → List A → A
  pub passed : PassedRule → A
  pub other : ℕ → A

module _ {A : Type 0} (steps : Steps A) where
  abbrev pub of_item : Item-F A A A → A
  of_item (Plain ds) = steps.plain ds
  of_item (Style a) = a
  of_item (Group a) = a
  of_item (Passed rule) = steps.passed rule
  of_item (Other at) = steps.other at

  abbrev pub of_group : Group-F A A A → A
  of_group g = steps.group g.condition g.at g.items

  abbrev pub of_style : Style-F A A A → A
  of_style s = steps.style s.selectors s.at s.items

  -- what is made of an item
  abbrev pub folded : Item → A
  folded = fold-Item A A A of_item of_group of_style

  abbrev layer_folded : Item-F Item group.Group style.Style → A
  layer_folded v = of_item (item.map-Item Item group.Group style.Style A A A folded (group.fold-Group A A A of_item of_group of_style) (style.fold-Style A A A of_item of_group of_style) v)

  out_folded : (x : Item) (v : Item-F Item group.Group style.Style) → item.out-Item x ≡ v → folded x ≡ layer_folded v
  out_folded x v e = fold_out-Item A A A of_item of_group of_style x ∙ ap layer_folded e

  -- Declarations are made by their step.
  pub folded-Plain : (ds : List Declaration) → folded (item.Plain ds) ≡ steps.plain ds
  folded-Plain ds = out_folded (item.Plain ds) (Plain ds) (outs-Plain ds)

  -- A style rule is made by its step, from what is made of its items.
  pub folded-Style : (s : style.Style) → folded (item.Style s) ≡ steps.style s.selectors s.at (map folded s.items)
  folded-Style s = out_folded (item.Style s) (Style s) (outs-Style s) ∙ style.fold_out-Style A A A of_item of_group of_style s

  -- So is a group.
  pub folded-Group : (g : group.Group) → folded (item.Group g) ≡ steps.group g.condition g.at (map folded g.items)
  folded-Group g = out_folded (item.Group g) (Group g) (outs-Group g) ∙ group.fold_out-Group A A A of_item of_group of_style g

  -- A rule that is passed on is made by its step.
  pub folded-Passed : (rule : PassedRule) → folded (item.Passed rule) ≡ steps.passed rule
  folded-Passed rule = out_folded (item.Passed rule) (Passed rule) (outs-Passed rule)

  -- So is any other at-rule.
  pub folded-Other : (at : ℕ) → folded (item.Other at) ≡ steps.other at
  folded-Other at = out_folded (item.Other at) (Other at) (outs-Other at)
