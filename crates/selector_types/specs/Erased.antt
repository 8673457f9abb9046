-- Selectors with each place at 0.
use Rattle.std.specs.Prelude.{List, map, ◌≡◌}
use Rattle.selector_types.specs.declared.selector.Simple.{Simple}
use Rattle.selector_types.specs.declared.selector.Simple as simple
use Rattle.selector_types.specs.declared.selector.Compound as compound
use Rattle.selector_types.specs.declared.selector.Link as link
use Rattle.selector_types.specs.declared.selector.Part as part
use Rattle.selector_types.specs.declared.selector.Selector as selector
use Rattle.std.specs.Prelude.{[], ◌∷◌}
use Rattle.std.proofs.Common.{refl, ◌∙◌, ap}
use Rattle.selector_types.specs.SelectorFold.{Steps, folded_simple, folded_compound, folded_selector, made_part, made_link, simple_of, compound_of, combinator_of, folded-Compound, folded-Selector}

-- each made anew with its places at 0
abbrev pub erasing : Steps Simple compound.Compound selector.Selector
erasing = record {
  class = λ n. simple.Class n;
  id = λ n. simple.Id n;
  attribute = λ a. simple.Attribute a;
  pseudo = λ n. simple.Pseudo n;
  not_of = λ ss. simple.Not ss;
  is_of = λ ss. simple.Is ss;
  where_of = λ ss. simple.Where ss;
  parent = simple.Parent;
  local = λ k. simple.Local k;
  global = λ k. simple.Global k;
  foreign = simple.Foreign;
  compound = λ kind parts tail. record { kind = kind; parts = map (λ p. part.Placed p.0 0) parts; tail = tail };
  selector = λ lead first rest at. record { lead = lead; first = first; rest = map (λ l. link.Linked l.0 l.1) rest; at = 0 };
}

-- a simple selector with its places at 0
abbrev pub erased_simple : Simple → Simple
erased_simple = folded_simple erasing

-- a compound with its places at 0
abbrev pub erased_compound : compound.Compound → compound.Compound
erased_compound = folded_compound erasing

-- a selector with its places at 0
abbrev pub erased : selector.Selector → selector.Selector
erased = folded_selector erasing

-- a part with its places at 0
abbrev pub erased_part : part.Part → part.Part
erased_part p = part.Placed (erased_simple (simple_of p)) 0

-- a link with its places at 0
abbrev pub erased_link : link.Link → link.Link
erased_link l = link.Linked (combinator_of l) (erased_compound (compound_of l))

parts-erased : (ps : List part.Part) → map (λ p. part.Placed p.0 0) (map (made_part erasing) ps) ≡ map erased_part ps
parts-erased [] = refl
parts-erased (p ∷ ps) = ap (λ qs. erased_part p ∷ qs) (parts-erased ps)

links-erased : (ls : List link.Link) → map (λ l. link.Linked l.0 l.1) (map (made_link erasing) ls) ≡ map erased_link ls
links-erased [] = refl
links-erased (l ∷ ls) = ap (λ ms. erased_link l ∷ ms) (links-erased ls)

-- A compound with its places at 0 is made of its parts with theirs at 0.
pub erased-compound : (k : compound.Compound) → erased_compound k ≡ record { kind = k.kind; parts = map erased_part k.parts; tail = k.tail }
erased-compound k = folded-Compound erasing k ∙ ap (λ (ps : List part.Part). (let made : compound.Compound = record { kind = k.kind; parts = ps; tail = k.tail } in made)) (parts-erased k.parts)

-- A selector with its places at 0 is made of its compounds with theirs at 0.
pub erased-selector : (s : selector.Selector) → erased s ≡ record { lead = s.lead; first = erased_compound s.first; rest = map erased_link s.rest; at = 0 }
erased-selector s = folded-Selector erasing s ∙ ap (λ (ls : List link.Link). (let made : selector.Selector = record { lead = s.lead; first = erased_compound s.first; rest = ls; at = 0 } in made)) (links-erased s.rest)
