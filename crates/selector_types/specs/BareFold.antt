-- Functions of selectors that look at no place.
use Rattle.std.specs.Prelude.{ℕ, List, map, Option}
use Rattle.selector_types.specs.declared.selector.Combinator.{Combinator}
use Rattle.selector_types.specs.declared.selector.TypeName.{TypeName}
use Rattle.selector_types.specs.declared.selector.Attribute as attribute
use Rattle.selector_types.specs.declared.selector.Tail as tail
use Rattle.selector_types.specs.declared.selector.Simple.{Simple}
use Rattle.selector_types.specs.declared.selector.Compound as compound
use Rattle.selector_types.specs.declared.selector.Selector as selector
use Rattle.selector_types.specs.SelectorFold.{Steps, folded_simple, folded_compound, folded_selector}

-- the steps, none of which is told a place
pub record BareSteps (M K S : Type 0) : Type 0 where
  pub class : List ℕ → M
  pub id : List ℕ → M
  pub attribute : attribute.Attribute → M
  pub pseudo : List ℕ → M
  pub not_of : List S → M
  pub is_of : List S → M
  pub where_of : List S → M
  pub parent : M
  pub local : K → M
  pub global : K → M
  pub foreign : M
  pub compound : TypeName → List M → Option tail.Tail → K
  pub selector : Option Combinator → K → List (Combinator × K) → S

module _ {M K S : Type 0} (steps : BareSteps M K S) where
  -- the same steps, which look at no place
  abbrev pub placed : Steps M K S
  placed = record {
    class = steps.class;
    id = steps.id;
    attribute = steps.attribute;
    pseudo = steps.pseudo;
    not_of = steps.not_of;
    is_of = steps.is_of;
    where_of = steps.where_of;
    parent = steps.parent;
    local = steps.local;
    global = steps.global;
    foreign = steps.foreign;
    compound = λ kind parts tail. steps.compound kind (map (λ p. p.0) parts) tail;
    selector = λ lead first rest at. steps.selector lead first rest;
  }

  -- what is made of a simple selector
  abbrev pub bare_simple : Simple → M
  bare_simple = folded_simple placed

  -- what is made of a compound
  abbrev pub bare_compound : compound.Compound → K
  bare_compound = folded_compound placed

  -- what is made of a selector
  abbrev pub bare_selector : selector.Selector → S
  bare_selector = folded_selector placed
