-- How a `Boxed` holds a type that leads back to it: as the `Box` of its value does, with nothing beside it.
use mathlib.Core.Path.{refl}
use mathlib.Core.Former.{Former, this, const, pair, via}
use base.Stored.{gnil}
use base.Fml.{ftrue}
use denote.RattleType.{RattleType}
use denote.Memory.{part_of}
use denote.RawPtr.{Ptr}
use denote.Sharing.{nothing}
use denote.HoleLaws.{Alike}
use denote.HolePlaces.{Recodes, struct_places, laid, one_value}
use denote.Hole.Fix.{over}
use denote.Param.Weighed.{Weighed}
use denote.Model.Placed.{view_places}
use Rattle.std.specs.declared.boxed.Box.{Box}
use Rattle.std.specs.contracts.boxed.Box as box
use Rattle.std.specs.declared.alloc.Global.{Global}
use Rattle.std.specs.contracts.alloc.Global as global
use Rattle.std.specs.contracts.impls.GlobalAllocator.TheImpl.{ghosts}
use Rattle.css_tokens.specs.declared.boxed.Boxed.TheInside.{Inside}
use Rattle.css_tokens.specs.declared.boxed.Boxed.TheView.{view, invariant}
use Rattle.css_tokens.specs.contracts.boxed.Boxed as rows
use Rattle.css_tokens.specs.contracts.boxed.Boxed.TheInside as inside

-- what a `Boxed` is seen as, is its value
abbrev pub the_former : Former {0} → Former {0}
the_former value = value

-- and so it is as deep as its value
abbrev pub the_weighed : {value : Former {0}} → Weighed value → Weighed (the_former value)
the_weighed w = w

-- the one field, as a shape of its own
abbrev held : Former {0}
held = via (pair (const (Ptr × Global)) this) Inside (λ Item boxed. ((boxed.inner.ptr, boxed.inner.alloc), boxed.inner.value))
    (λ Item parts. record { inner = record { ptr = parts.0.0; alloc = parts.0.1; value = parts.1 } }) (λ Item boxed. refl) (λ Item parts. refl)

abbrev with_value : {Old New : Type 0} → Box Old Global → New → Box New Global
with_value b value = record { ptr = b.ptr; alloc = b.alloc; value = value }

abbrev box_of : RattleType → RattleType
box_of Item = box.the_row Item global.the_row ghosts

module _ (Old New : RattleType) (each : Old.Denot → New.Denot) where
  box_places : Alike Old New each → Alike (box_of Old) (box_of New) (λ b. with_value b (each b.value))
  unfolding part_of
  box_places same = record {
    mir_same = λ i. (box_of (one_value Old (same.mir_same i) (λ _. ftrue) (λ _ _. nothing) gnil)).mir;
    own_same = λ b i. (box_of (one_value Old (same.mir_same i) (same.own_same b.value i) (same.shr_same b.value i) gnil)).own_val (with_value b tt);
    shr_same = λ b i. (box_of (one_value Old (same.mir_same i) (same.own_same b.value i) (same.shr_same b.value i) gnil)).shr_at (with_value b tt);
  }

  -- what is owned and lent depends on the value alone
  pub the_places : Alike Old New each → Alike (rows.the_row Old) (rows.the_row New) ((the_former this).map Old.Denot New.Denot each)
  the_places same =
      view_places held this view (λ X Y k u. refl) (λ X u. refl) Old.Denot New.Denot each
      (rows.the_row Old).coded (rows.the_row New).coded
      (invariant Old.Denot) (invariant New.Denot) (λ u p q. refl) (λ u p q. refl) (λ u e. tt) (λ u e. tt)
      (over (inside.the_row Old)) (over (inside.the_row New))
      (struct_places (inside.the_type Old) (inside.the_type New) ((λ b. with_value b (each b.value)), tt) _ (λ d. refl) refl
      (laid _ _ _ (box_places same), tt))

  pub the_codes_placed : Recodes Old New each → Recodes (rows.the_row Old) (rows.the_row New) ((the_former this).map Old.Denot New.Denot each)
  the_codes_placed same value = same value
