-- The parts at any depth, by what holds them: equations of specs/PartsWithin.
use Rattle.std.specs.Prelude.{ℕ, List, [], ◌∷◌, ◌++◌, map, flat_map, ◌≡◌}
use Rattle.std.specs.List.{AllByRecursion}
use Rattle.std.proofs.Common.{refl, sym, subst, ◌∙◌, ap}
use Rattle.selector_types.specs.declared.selector.Simple.{Simple}
use Rattle.selector_types.specs.declared.selector.Attribute as attribute
use Rattle.selector_types.specs.declared.selector.Simple as simple
use Rattle.selector_types.specs.declared.selector.Compound as compound
use Rattle.selector_types.specs.declared.selector.Link as link
use Rattle.selector_types.specs.declared.selector.Part as part
use Rattle.selector_types.specs.declared.selector.Selector as selector
use Rattle.selector_types.specs.declared.selector.Link.TheOpen.{Link-F, Linked}
use Rattle.selector_types.specs.declared.selector.Link.TheFolds.{ind-Link}
use Rattle.selector_types.specs.declared.selector.Link.TheVariants.{outs-Linked, rolls-Linked}
use Rattle.selector_types.specs.PartsWithin.{parting, simple_parts, compound_parts, selector_parts, list_parts}
use Rattle.selector_types.specs.SelectorFold.{folded_simple, folded_compound, folded_selector, made_part, made_link, simple_of, compound_of, combinator_of, layer_combinator, layer_compound, folded-Class, folded-Id, folded-Attribute, folded-Pseudo, folded-Not, folded-Is, folded-Where, folded-Parent, folded-Local, folded-Global, folded-Foreign, folded-Compound, folded-Selector}
use Rattle.selector_types.specs.SelectorInduction.{Cases, by_simples}

-- What is made anew is the same.

abbrev P : Simple → Type 0
P x = (folded_simple parting x).itself ≡ x

abbrev Q : compound.Compound → Type 0
Q k = (folded_compound parting k).itself ≡ k

abbrev R : selector.Selector → Type 0
R s = (folded_selector parting s).itself ≡ s

-- a link is its combinator and its compound
abbrev IsMade : link.Link → Type 0
IsMade l = link.Linked (combinator_of l) (compound_of l) ≡ l

-- a link, with nothing known of what stands in it
abbrev Bare : Type 0
Bare = Link-F ((l : link.Link) × IsMade l) ((p : part.Part) × Unit {0}) ((x : Simple) × Unit {0}) ((k : compound.Compound) × Unit {0}) ((s : selector.Selector) × Unit {0})

made-step : (y : Bare) → IsMade (link.roll-Link (link.map-Link ((l : link.Link) × IsMade l) ((p : part.Part) × Unit {0}) ((x : Simple) × Unit {0}) ((k : compound.Compound) × Unit {0}) ((s : selector.Selector) × Unit {0}) link.Link part.Part Simple compound.Compound selector.Selector (λ e. e.0) (λ e. e.0) (λ e. e.0) (λ e. e.0) (λ e. e.0) y))
made-step (Linked c e) = subst IsMade (sym (rolls-Linked c e.0)) (ap (λ v. link.Linked (layer_combinator v) (layer_compound v)) (outs-Linked c e.0))

made-link : (l : link.Link) → IsMade l
made-link l =
    ind-Link IsMade (λ p. Unit {0}) (λ x. Unit {0}) (λ k. Unit {0}) (λ s. Unit {0})
    (λ x y is. subst (λ z. IsMade (link.roll-Link z)) is (made-step y))
    (λ x y is. tt) (λ x y is. tt) (λ x y is. tt) (λ x y is. tt) l

lists-same : (ss : List selector.Selector) → AllByRecursion R ss → map (λ s. s.itself) (map (folded_selector parting) ss) ≡ ss
lists-same [] each = refl
lists-same (s ∷ ss) each = ap (λ t. t ∷ map (λ u. u.itself) (map (folded_selector parting) ss)) each.0 ∙ ap (λ ts. s ∷ ts) (lists-same ss each.1)

abbrev parts_anew : List part.Part → List part.Part
parts_anew ps = map (λ p. part.Placed p.0.itself p.1) (map (made_part parting) ps)

parts-same : (ps : List part.Part) → AllByRecursion (λ p. P (simple_of p)) ps → parts_anew ps ≡ ps
parts-same [] each = refl
parts-same (part.Placed x at ∷ ps) each = ap (λ y. part.Placed y at ∷ parts_anew ps) each.0 ∙ ap (λ qs. part.Placed x at ∷ qs) (parts-same ps each.1)

abbrev links_anew : List link.Link → List link.Link
links_anew ls = map (λ l. link.Linked l.0 l.1.itself) (map (made_link parting) ls)

links-same : (ls : List link.Link) → AllByRecursion (λ l. Q (compound_of l)) ls → links_anew ls ≡ ls
links-same [] each = refl
links-same (l ∷ ls) each = ap (λ k. link.Linked (combinator_of l) k ∷ links_anew ls) each.0 ∙ ap (λ m. m ∷ links_anew ls) (made-link l) ∙ ap (λ ms. l ∷ ms) (links-same ls each.1)

cases : Cases P Q R
cases = record {
  class = λ n. ap (λ m. m.itself) (folded-Class parting n);
  id = λ n. ap (λ m. m.itself) (folded-Id parting n);
  attribute = λ a. ap (λ m. m.itself) (folded-Attribute parting a);
  pseudo = λ n. ap (λ m. m.itself) (folded-Pseudo parting n);
  not_of = λ ss each. ap (λ m. m.itself) (folded-Not parting ss) ∙ ap (λ ts. simple.Not ts) (lists-same ss each);
  is_of = λ ss each. ap (λ m. m.itself) (folded-Is parting ss) ∙ ap (λ ts. simple.Is ts) (lists-same ss each);
  where_of = λ ss each. ap (λ m. m.itself) (folded-Where parting ss) ∙ ap (λ ts. simple.Where ts) (lists-same ss each);
  parent = ap (λ m. m.itself) (folded-Parent parting);
  local = λ k same. ap (λ m. m.itself) (folded-Local parting k) ∙ ap (λ j. simple.Local j) same;
  global = λ k same. ap (λ m. m.itself) (folded-Global parting k) ∙ ap (λ j. simple.Global j) same;
  foreign = ap (λ m. m.itself) (folded-Foreign parting);
  compound = λ k each.
      ap (λ m. m.itself) (folded-Compound parting k)
      ∙ ap (λ (ps : List part.Part). (let made : compound.Compound = record { kind = k.kind; parts = ps; tail = k.tail } in made)) (parts-same k.parts each);
  selector = λ s first each.
      ap (λ m. m.itself) (folded-Selector parting s)
      ∙ ap (λ (k : compound.Compound). (let made : selector.Selector = record { lead = s.lead; first = k; rest = links_anew s.rest; at = s.at } in made)) first
      ∙ ap (λ (ls : List link.Link). (let made : selector.Selector = record { lead = s.lead; first = s.first; rest = ls; at = s.at } in made)) (links-same s.rest each);
}

-- The parts of each.

abbrev pub within : part.Part → List part.Part
within p = p ∷ simple_parts (simple_of p)

parts-by : (ps : List part.Part) → flat_map (λ p. part.Placed p.0.itself p.1 ∷ p.0.parts) (map (made_part parting) ps) ≡ flat_map within ps
parts-by [] = refl
parts-by (part.Placed x at ∷ ps) =
    ap (λ y. part.Placed y at ∷ simple_parts x ++ flat_map (λ p. part.Placed p.0.itself p.1 ∷ p.0.parts) (map (made_part parting) ps)) (by_simples P Q R cases x)
    ∙ ap (λ qs. within (part.Placed x at) ++ qs) (parts-by ps)

links-by : (ls : List link.Link) → flat_map (λ l. l.1.parts) (map (made_link parting) ls) ≡ flat_map (λ l. compound_parts (compound_of l)) ls
links-by [] = refl
links-by (l ∷ ls) = ap (λ ps. compound_parts (compound_of l) ++ ps) (links-by ls)

members-by : (ss : List selector.Selector) → flat_map (λ s. s.parts) (map (folded_selector parting) ss) ≡ list_parts ss
members-by [] = refl
members-by (s ∷ ss) = ap (λ ps. selector_parts s ++ ps) (members-by ss)

pub parts-Not : (ss : List selector.Selector) → simple_parts (simple.Not ss) ≡ list_parts ss
parts-Not ss = ap (λ m. m.parts) (folded-Not parting ss) ∙ members-by ss

pub parts-Is : (ss : List selector.Selector) → simple_parts (simple.Is ss) ≡ list_parts ss
parts-Is ss = ap (λ m. m.parts) (folded-Is parting ss) ∙ members-by ss

pub parts-Where : (ss : List selector.Selector) → simple_parts (simple.Where ss) ≡ list_parts ss
parts-Where ss = ap (λ m. m.parts) (folded-Where parting ss) ∙ members-by ss

pub parts-Local : (k : compound.Compound) → simple_parts (simple.Local k) ≡ compound_parts k
parts-Local k = ap (λ m. m.parts) (folded-Local parting k)

pub parts-Global : (k : compound.Compound) → simple_parts (simple.Global k) ≡ compound_parts k
parts-Global k = ap (λ m. m.parts) (folded-Global parting k)

pub parts-Class : (n : List ℕ) → simple_parts (simple.Class n) ≡ []
parts-Class n = ap (λ m. m.parts) (folded-Class parting n)

pub parts-Id : (n : List ℕ) → simple_parts (simple.Id n) ≡ []
parts-Id n = ap (λ m. m.parts) (folded-Id parting n)

pub parts-Attribute : (a : attribute.Attribute) → simple_parts (simple.Attribute a) ≡ []
parts-Attribute a = ap (λ m. m.parts) (folded-Attribute parting a)

pub parts-Pseudo : (n : List ℕ) → simple_parts (simple.Pseudo n) ≡ []
parts-Pseudo n = ap (λ m. m.parts) (folded-Pseudo parting n)

pub parts-Parent : simple_parts simple.Parent ≡ []
parts-Parent = ap (λ m. m.parts) (folded-Parent parting)

pub parts-Foreign : simple_parts simple.Foreign ≡ []
parts-Foreign = ap (λ m. m.parts) (folded-Foreign parting)

pub parts-Compound : (k : compound.Compound) → compound_parts k ≡ flat_map within k.parts
parts-Compound k = ap (λ m. m.parts) (folded-Compound parting k) ∙ parts-by k.parts

pub parts-Selector : (s : selector.Selector) → selector_parts s ≡ compound_parts s.first ++ flat_map (λ l. compound_parts (compound_of l)) s.rest
parts-Selector s = ap (λ m. m.parts) (folded-Selector parting s) ∙ ap (λ ps. compound_parts s.first ++ ps) (links-by s.rest)

-- the parts of each kind of simple selector
pub ruleset simple_found = (parts-Class, parts-Id, parts-Attribute, parts-Pseudo, parts-Not, parts-Is, parts-Where, parts-Parent, parts-Local, parts-Global, parts-Foreign)
