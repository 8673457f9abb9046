-- How a `List` holds a type that leads back to it: as the `Vec` of its items does, with nothing beside them.
use mathlib.Core.Path.{◌≡◌, refl, sym}
use mathlib.Core.List.{List, []}
use mathlib.Core.Former.{Former, this, list, via, children}
use base.Stored.{code_map}
use denote.RattleType.{RattleType}
use denote.HoleLaws.{Alike}
use denote.HolePlaces.{Recodes, struct_places, laid}
use denote.Hole.Carrier.{listed, list-listed}
use denote.Hole.Fix.{over}
use denote.Param.Weighed.{Weighed, w_list}
use denote.Model.Placed.{view_places}
use Rattle.std.specs.formers.vec.Vec as vec
use Rattle.std.specs.declared.alloc.Global.{Global}
use Rattle.std.specs.contracts.alloc.Global as global
use Rattle.std.specs.contracts.impls.GlobalAllocator.TheImpl.{ghosts}
use Rattle.css_tokens.specs.declared.list.List.TheInside.{Inside}
use Rattle.css_tokens.specs.declared.list.List.TheView.{view, invariant}
use Rattle.css_tokens.specs.contracts.list.List as rows
use Rattle.css_tokens.specs.contracts.list.List.TheInside as inside

-- the value of a list is the antt list of its items
abbrev pub the_former : Former {0} → Former {0}
the_former item = list item

-- it is one deeper than its deepest item
abbrev pub the_weighed : {item : Former {0}} → Weighed item → Weighed (the_former item)
the_weighed item = w_list item

-- a list may have no items
pub the_empty : List ⊥
the_empty = []

abbrev pub the_items : (Item : Type 0) → List Item → List Item
the_items Item items = items

pub the_items_listed : (Item : Type 0) (items : List Item) → listed _ (children (the_former this) Item items) ≡ the_items Item items
the_items_listed Item items = list-listed Item items

-- the one field, as a shape of its own
abbrev held : Former {0}
held = via (vec.the_former this Global) Inside (λ Item inner. inner.items) (λ Item items. record { items = items }) (λ Item inner. refl) (λ Item items. refl)

module _ (Old New : RattleType) (each : Old.Denot → New.Denot) where
  -- what is owned and lent depends on the items alone
  pub the_places : Alike Old New each → Alike (rows.the_row Old) (rows.the_row New) ((the_former this).map Old.Denot New.Denot each)
  the_places same =
      view_places held (list this) view (λ X Y k u. refl) (λ X u. refl) Old.Denot New.Denot each
      (rows.the_row Old).coded (rows.the_row New).coded
      (invariant Old.Denot) (invariant New.Denot) (λ u p q. refl) (λ u p q. refl) (λ u e. tt) (λ u e. tt)
      (over (inside.the_row Old)) (over (inside.the_row New))
      (struct_places (inside.the_type Old) (inside.the_type New) (vec.mapped each, tt) _ (λ d. refl) refl
      (laid _ _ _ (vec.the_places global.the_row ghosts Old New each same), tt))

  pub the_codes_placed : Recodes Old New each → Recodes (rows.the_row Old) (rows.the_row New) ((the_former this).map Old.Denot New.Denot each)
  the_codes_placed same items = sym (code_map Old.coded.code New.coded.code each (λ item. sym (same item)) items)
