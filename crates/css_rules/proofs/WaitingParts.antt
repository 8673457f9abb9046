-- Selectors without `&` and `:is` have no part that waits for a later stage.
use Rattle.std.proofs.Common.{◌≡◌, ℕ, List, [], ◌∷◌, ◌++◌, map, flat_map, Bool, true, false, not, refl, sym, ◌∙◌, ap}
use Rattle.std.specs.List.{AllByRecursion}
use Rattle.std.proofs.lemmas.List.Folds.{list_all-append}
use Rattle.selector_types.specs.declared.selector.Compound as compound
use Rattle.selector_types.specs.declared.selector.Link as link
use Rattle.selector_types.specs.declared.selector.Part as part
use Rattle.selector_types.specs.declared.selector.Selector.{Selector}
use Rattle.selector_types.specs.declared.selector.Simple.{Simple}
use Rattle.selector_types.specs.declared.selector.Simple.TheVariants.{outs-Class, outs-Id, outs-Attribute, outs-Pseudo, outs-Not, outs-Where, outs-Local, outs-Global, outs-Foreign}
use Rattle.selector_types.specs.BareFold.{placed, bare_simple, bare_compound, bare_selector}
use Rattle.selector_types.specs.PartsFound.{within, parts-Class, parts-Id, parts-Attribute, parts-Pseudo, parts-Not, parts-Where, parts-Local, parts-Global, parts-Foreign, parts-Compound, parts-Selector}
use Rattle.selector_types.specs.PartsWithin.{simple_parts, compound_parts, selector_parts, list_parts}
use Rattle.selector_types.specs.SelectorFold.{made_part, made_link, simple_of, compound_of, folded-Is, folded-Not, folded-Where, folded-Parent, folded-Local, folded-Global, folded-Compound, folded-Selector}
use Rattle.selector_types.specs.SelectorInduction.{Cases, by_lists}
use Rattle.css_rules.specs.PlainRules.{opens_waiting, is_waiting, is_waiting_part, none_waits}
use Rattle.css_rules.proofs.BoolLemmas.{and-left, and-right, and-both}
use Rattle.css_rules.proofs.WaitingTrees.{IsCalm, IsCalmCompound, IsCalmSimple, all_calm, all_links, all_true, calm}

abbrev P : Simple → Type 0
P x = IsCalmSimple x → (is_waiting x ≡ false) × (none_waits (simple_parts x) ≡ true)

abbrev Q : compound.Compound → Type 0
Q k = IsCalmCompound k → none_waits (compound_parts k) ≡ true

abbrev R : Selector → Type 0
R s = IsCalm s → none_waits (selector_parts s) ≡ true

both : (ps qs : List part.Part) → none_waits ps ≡ true → none_waits qs ≡ true → none_waits (ps ++ qs) ≡ true
both ps qs h k = list_all-append (λ p. not (is_waiting_part p)) ps qs ∙ and-both (none_waits ps) (none_waits qs) h k

members : (ss : List Selector) → AllByRecursion R ss → all_calm ss ≡ true → none_waits (list_parts ss) ≡ true
members [] each h = refl
members (s ∷ ss) each h =
    both (selector_parts s) (list_parts ss) (each.0 (and-left (bare_selector calm s) (all_calm ss) h)) (members ss each.1 (and-right (bare_selector calm s) (all_calm ss) h))

parts : (ps : List part.Part) → AllByRecursion (λ p. P (simple_of p)) ps → all_true (map (λ (p : Bool × ℕ). p.0) (map (made_part (placed calm)) ps)) ≡ true → none_waits (flat_map within ps) ≡ true
parts [] each h = refl
parts (part.Placed x at ∷ ps) each h =
    let rest = all_true (map (λ (p : Bool × ℕ). p.0) (map (made_part (placed calm)) ps)) in
    let here = each.0 (and-left (bare_simple calm x) rest h) in
    both (part.Placed x at ∷ simple_parts x) (flat_map within ps)
    (and-both (not (is_waiting x)) (none_waits (simple_parts x)) (ap not here.0) here.1)
    (parts ps each.1 (and-right (bare_simple calm x) rest h))

links : (ls : List link.Link) → AllByRecursion (λ l. Q (compound_of l)) ls → all_links (map (made_link (placed calm)) ls) ≡ true → none_waits (flat_map (λ l. compound_parts (compound_of l)) ls) ≡ true
links [] each h = refl
links (l ∷ ls) each h =
    let rest = all_links (map (made_link (placed calm)) ls) in
    both (compound_parts (compound_of l)) (flat_map (λ l. compound_parts (compound_of l)) ls)
    (each.0 (and-left (bare_compound calm (compound_of l)) rest h))
    (links ls each.1 (and-right (bare_compound calm (compound_of l)) rest h))

cases : Cases P Q R
cases = record {
  class = λ n h. (ap opens_waiting (outs-Class n), ap none_waits (parts-Class n));
  id = λ n h. (ap opens_waiting (outs-Id n), ap none_waits (parts-Id n));
  attribute = λ a h. (ap opens_waiting (outs-Attribute a), ap none_waits (parts-Attribute a));
  pseudo = λ t h. (ap opens_waiting (outs-Pseudo t), ap none_waits (parts-Pseudo t));
  not_of = λ ss each h. (ap opens_waiting (outs-Not ss), ap none_waits (parts-Not ss) ∙ members ss each (sym (folded-Not (placed calm) ss) ∙ h));
  is_of = λ ss each h. (let clash = sym (folded-Is (placed calm) ss) ∙ h in absurd (cc clash));
  where_of = λ ss each h. (ap opens_waiting (outs-Where ss), ap none_waits (parts-Where ss) ∙ members ss each (sym (folded-Where (placed calm) ss) ∙ h));
  parent = λ h. (let clash = sym (folded-Parent (placed calm)) ∙ h in absurd (cc clash));
  local = λ k same h. (ap opens_waiting (outs-Local k), ap none_waits (parts-Local k) ∙ same (sym (folded-Local (placed calm) k) ∙ h));
  global = λ k same h. (ap opens_waiting (outs-Global k), ap none_waits (parts-Global k) ∙ same (sym (folded-Global (placed calm) k) ∙ h));
  foreign = λ h. (ap opens_waiting outs-Foreign, ap none_waits parts-Foreign);
  compound = λ k each h. ap none_waits (parts-Compound k) ∙ parts k.parts each (sym (folded-Compound (placed calm) k) ∙ h);
  selector = λ s first each h.
      let whole = sym (folded-Selector (placed calm) s) ∙ h in
      let rest = all_links (map (made_link (placed calm)) s.rest) in
      ap none_waits (parts-Selector s)
      ∙ both (compound_parts s.first) (flat_map (λ l. compound_parts (compound_of l)) s.rest)
      (first (and-left (bare_compound calm s.first) rest whole))
      (links s.rest each (and-right (bare_compound calm s.first) rest whole));
}

pub parts-calm : (ss : List Selector) → all_calm ss ≡ true → none_waits (list_parts ss) ≡ true
parts-calm ss h = members ss (by_lists P Q R cases ss) h
