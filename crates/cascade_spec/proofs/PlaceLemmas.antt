-- What a list is round a rule does not depend on places.
use Rattle.std.proofs.Common.{List, [], ◌∷◌, ◌++◌, map, Bool, ◌&&◌, not, Option, Some, None, if◌then◌else◌, ◌≡◌, refl, sym, ◌∙◌, ap}
use Rattle.std.specs.Prelude.{is_some}
use Rattle.selector_types.specs.declared.selector.Combinator.{Combinator}
use Rattle.selector_types.specs.declared.selector.Combinator.TheVariants.{Descendant}
use Rattle.selector_types.specs.declared.selector.Link as link
use Rattle.selector_types.specs.declared.selector.Selector.{Selector}
use Rattle.selector_types.specs.BareFold.{BareSteps, placed, bare_compound, bare_selector}
use Rattle.selector_types.specs.Erased.{erasing, erased, erased_compound}
use Rattle.selector_types.specs.SameErased.{same-erased, same-compound, same-links, linked, links_in, erased_links}
use Rattle.selector_types.specs.SelectorFold.{folded-Selector}
use Rattle.selector_types.specs.Specificities.{counting}
use Rattle.cascade_spec.specs.Worlds.{World}
use Rattle.cascade_spec.specs.Matching.{fitting}
use Rattle.cascade_spec.specs.Implied.{having_parent, has_parent, parent_alone, led_by, implied}
use Rattle.cascade_spec.specs.Surroundings.{Around, member_of, gathered, within}

-- a selector with its places at 0, made of its compounds
abbrev unplaced : Selector → Selector
unplaced s = record { lead = s.lead; first = erased_compound s.first; rest = erased_links having_parent s.rest; at = 0 }

module _ {M K S : Type 0} (steps : BareSteps M K S) (s : Selector) where
  led-same : (o : Option Combinator) → bare_selector steps (led_by o (unplaced s)) ≡ bare_selector steps (led_by o s)
  led-same None = ap (bare_selector steps) (sym (folded-Selector erasing s)) ∙ same-erased steps s
  led-same (Some c) =
      folded-Selector (placed steps) (led_by (Some c) (unplaced s))
      ∙ ap (λ l. steps.selector None (bare_compound steps parent_alone) (l ∷ links_in steps (erased_links steps s.rest)))
      (linked steps c (erased_compound s.first) ∙ ap (λ k. (c, k)) (same-compound steps s.first) ∙ sym (linked steps c s.first))
      ∙ ap (λ ls. steps.selector None (bare_compound steps parent_alone) (links_in steps (link.Linked c s.first ∷ []) ++ ls)) (same-links steps s.rest)
      ∙ sym (folded-Selector (placed steps) (led_by (Some c) s))

  parent-same : has_parent (unplaced s) ≡ has_parent s
  parent-same = ap has_parent (sym (folded-Selector erasing s)) ∙ same-erased having_parent s

  -- what looks at no place is the same of a selector that is read with its places at 0
  implied-same : (nested : Bool) → bare_selector steps (implied nested (erased s)) ≡ bare_selector steps (implied nested s)
  implied-same nested =
      ap (λ t. bare_selector steps (implied nested t)) (folded-Selector erasing s)
      ∙ led-same (if is_some s.lead then s.lead else (if nested && not (has_parent (unplaced s)) then Some Descendant else None))
      ∙ ap (λ b. bare_selector steps (led_by (if is_some s.lead then s.lead else (if nested && not b then Some Descendant else None)) s)) parent-same

module _ (world : World) (around : Around) where
  member-same : (s : Selector) → member_of world around (erased s) ≡ member_of world around s
  member-same s =
      let fit = implied-same (fitting world around.holds) s around.nested in
      let specific = implied-same (counting around.most) s around.nested in
      cc (fit, specific)

  members-same : (ss : List Selector) → map (member_of world around) (map erased ss) ≡ map (member_of world around) ss
  members-same [] = refl
  members-same (s ∷ ss) = ap (λ m. m ∷ map (member_of world around) (map erased ss)) (member-same s) ∙ ap (λ ms. member_of world around s ∷ ms) (members-same ss)

  -- lists that differ in places alone are the same round a rule
  pub places-aside : (ss ts : List Selector) → map erased ss ≡ map erased ts → within world around ss ≡ within world around ts
  places-aside ss ts same =
      ap (gathered around.dropped) (sym (members-same ss) ∙ ap (map (member_of world around)) same ∙ members-same ts)
