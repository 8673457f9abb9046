-- What holds of every item.
use Rattle.std.specs.Prelude.{ℕ, List, [], ◌∷◌, map}
use Rattle.std.proofs.Common.{sym, subst}
use Rattle.sheet_types.specs.declared.sheet.Declaration.{Declaration}
use Rattle.sheet_types.specs.declared.sheet.Passed.{Passed as PassedRule}
use Rattle.sheet_types.specs.declared.sheet.Item.{Item, roll-Item, ind-Item}
use Rattle.sheet_types.specs.declared.sheet.Item as item
use Rattle.sheet_types.specs.declared.sheet.Group as group
use Rattle.sheet_types.specs.declared.sheet.Style as style
use Rattle.sheet_types.specs.declared.sheet.Item.TheOpen.{Item-F, Style, Plain, Group, Passed, Other}
use Rattle.sheet_types.specs.declared.sheet.Item.TheVariants.{rolls-Style, rolls-Plain, rolls-Group, rolls-Passed, rolls-Other}

-- P holds of each
abbrev pub Each : (P : Item → Type 0) → List Item → Type 0
Each P [] = Unit {0}
Each P (x ∷ xs) = P x × Each P xs

-- what is shown of an item: of rules and groups from what holds of each item in them, of the others outright
pub record Cases (P : Item → Type 0) : Type 0 where
  pub plain : (ds : List Declaration) → P (item.Plain ds)
  pub style : (s : style.Style) → Each P s.items → P (item.Style s)
  pub group : (g : group.Group) → Each P g.items → P (item.Group g)
  pub passed : (rule : PassedRule) → P (item.Passed rule)
  pub other : (at : ℕ) → P (item.Other at)

module _ (P : Item → Type 0) (cases : Cases P) where
  abbrev InGroup : group.Group → Type 0
  InGroup g = Each P g.items

  abbrev InStyle : style.Style → Type 0
  InStyle s = Each P s.items

  abbrev Known : Type 0
  Known = Item-F ((x : Item) × P x) ((g : group.Group) × InGroup g) ((s : style.Style) × InStyle s)

  abbrev made : Known → Item-F Item group.Group style.Style
  made = item.map-Item ((x : Item) × P x) ((g : group.Group) × InGroup g) ((s : style.Style) × InStyle s) Item group.Group style.Style (λ e. e.0) (λ e. e.0) (λ e. e.0)

  each_of : (ys : List ((x : Item) × P x)) → Each P (map (λ e. e.0) ys)
  each_of [] = tt
  each_of (y ∷ ys) = (y.1, each_of ys)

  step : (y : Known) → P (roll-Item (made y))
  step (Plain ds) = subst P (sym (rolls-Plain ds)) (cases.plain ds)
  step (Style e) = subst P (sym (rolls-Style e.0)) (cases.style e.0 e.1)
  step (Group e) = subst P (sym (rolls-Group e.0)) (cases.group e.0 e.1)
  step (Passed rule) = subst P (sym (rolls-Passed rule)) (cases.passed rule)
  step (Other at) = subst P (sym (rolls-Other at)) (cases.other at)

  pub by_items : (x : Item) → P x
  by_items x =
      ind-Item P InGroup InStyle
      (λ x y is. subst (λ z. P (roll-Item z)) is (step y))
      (λ x y is. subst (λ z. Each P z.items) is (each_of y.items))
      (λ x y is. subst (λ z. Each P z.items) is (each_of y.items))
      x
