-- Functions of selectors by one step for each kind of simple selector, one for compounds and one for selectors.
use Rattle.std.specs.Prelude.{ℕ, List, [], ◌∷◌, map, Option, ◌≡◌}
use Rattle.std.proofs.Common.{refl, ◌∙◌, ap}
use Rattle.selector_types.specs.declared.selector.Combinator.{Combinator}
use Rattle.selector_types.specs.declared.selector.TypeName.{TypeName}
use Rattle.selector_types.specs.declared.selector.Attribute as attribute
use Rattle.selector_types.specs.declared.selector.Tail as tail
use Rattle.selector_types.specs.declared.selector.Simple.{Simple}
use Rattle.selector_types.specs.declared.selector.Simple as simple
use Rattle.selector_types.specs.declared.selector.Compound as compound
use Rattle.selector_types.specs.declared.selector.Link as link
use Rattle.selector_types.specs.declared.selector.Part as part
use Rattle.selector_types.specs.declared.selector.Selector as selector
use Rattle.selector_types.specs.declared.selector.Simple.TheVariants.{outs-Class, outs-Id, outs-Attribute, outs-Pseudo, outs-Not, outs-Is, outs-Where, outs-Parent, outs-Local, outs-Global, outs-Foreign}
use Rattle.selector_types.specs.declared.selector.Part.TheVariants.{outs-Placed}
use Rattle.selector_types.specs.declared.selector.Link.TheOpen.{Link-F, Linked, Part-F, Placed, Simple-F, Class, Id, Attribute, Pseudo, Not, Is, Where, Parent, Local, Global, Foreign, Compound-F, Selector-F}
use Rattle.selector_types.specs.declared.selector.Link.TheFolds.{fold-Link, fold_out-Link}

-- what is made of each kind of simple selector, of a compound and of a selector, from what is made of what stands in it
pub record Steps (M K S : Type 0) : Type 0 where
  pub class : List ℕ → M
  pub id : List ℕ → M
  pub attribute : attribute.Attribute → M
  pub pseudo : List ℕ → M
  pub not_of : List S → M
  pub is_of : List S → M
  pub where_of : List S → M
  pub parent : M
  pub local : K → M
  pub global : K → M
  pub foreign : M
  pub compound : TypeName → List (M × ℕ) → Option tail.Tail → K
  pub selector : Option Combinator → K → List (Combinator × K) → ℕ → S

-- two functions that agree give the same list
map-alike : {A B : Type 0} (f g : A → B) → ((x : A) → f x ≡ g x) → (xs : List A) → map f xs ≡ map g xs
map-alike f g alike [] = refl
map-alike f g alike (x ∷ xs) = ap (λ y. y ∷ map f xs) (alike x) ∙ ap (λ ys. g x ∷ ys) (map-alike f g alike xs)

-- what a part and a link hold
abbrev pub simple_of : part.Part → Simple
simple_of (part.Placed x at) = x

-- the place of a part
abbrev pub place_of : part.Part → ℕ
place_of (part.Placed x at) = at

-- a link, laid open
abbrev LinkLayer : Type 0
LinkLayer = Link-F link.Link part.Part Simple compound.Compound selector.Selector

-- its combinator
abbrev pub layer_combinator : LinkLayer → Combinator
layer_combinator (Linked c k) = c

-- its compound
abbrev pub layer_compound : LinkLayer → compound.Compound
layer_compound (Linked c k) = k

-- the combinator of a link
abbrev pub combinator_of : link.Link → Combinator
combinator_of l = layer_combinator (link.out-Link l)

-- the compound behind it
abbrev pub compound_of : link.Link → compound.Compound
compound_of l = layer_compound (link.out-Link l)

module _ {M K S : Type 0} (steps : Steps M K S) where
  -- the step of each kind of simple selector
  abbrev pub of_simple : Simple-F (Combinator × K) (M × ℕ) M K S → M
  of_simple (Class name) = steps.class name
  of_simple (Id name) = steps.id name
  of_simple (Attribute a) = steps.attribute a
  of_simple (Pseudo name) = steps.pseudo name
  of_simple (Not ss) = steps.not_of ss
  of_simple (Is ss) = steps.is_of ss
  of_simple (Where ss) = steps.where_of ss
  of_simple Parent = steps.parent
  of_simple (Local k) = steps.local k
  of_simple (Global k) = steps.global k
  of_simple Foreign = steps.foreign

  -- the step of compounds
  abbrev pub of_compound : Compound-F (Combinator × K) (M × ℕ) M K S → K
  of_compound k = steps.compound k.kind k.parts k.tail

  -- a combinator and what is made of the compound behind it
  abbrev pub of_link : Link-F (Combinator × K) (M × ℕ) M K S → Combinator × K
  of_link (Linked c k) = (c, k)

  -- what is made of a simple selector, and its place
  abbrev pub of_part : Part-F (Combinator × K) (M × ℕ) M K S → M × ℕ
  of_part (Placed x at) = (x, at)

  -- the step of selectors
  abbrev pub of_selector : Selector-F (Combinator × K) (M × ℕ) M K S → S
  of_selector s = steps.selector s.lead s.first s.rest s.at

  -- what is made of a simple selector
  abbrev pub folded_simple : Simple → M
  folded_simple = simple.fold-Simple (Combinator × K) (M × ℕ) M K S of_link of_part of_simple of_compound of_selector

  -- what is made of a compound
  abbrev pub folded_compound : compound.Compound → K
  folded_compound = compound.fold-Compound (Combinator × K) (M × ℕ) M K S of_link of_part of_simple of_compound of_selector

  -- what is made of a link
  abbrev pub folded_link : link.Link → Combinator × K
  folded_link = fold-Link (Combinator × K) (M × ℕ) M K S of_link of_part of_simple of_compound of_selector

  -- what is made of a part
  abbrev pub folded_part : part.Part → M × ℕ
  folded_part = part.fold-Part (Combinator × K) (M × ℕ) M K S of_link of_part of_simple of_compound of_selector

  -- what is made of a selector
  abbrev pub folded_selector : selector.Selector → S
  folded_selector = selector.fold-Selector (Combinator × K) (M × ℕ) M K S of_link of_part of_simple of_compound of_selector

  -- a simple selector, laid open
  abbrev Layer : Type 0
  Layer = Simple-F link.Link part.Part Simple compound.Compound selector.Selector

  -- what is made of it
  abbrev layer_folded : Layer → M
  layer_folded v =
      of_simple
      (simple.map-Simple link.Link part.Part Simple compound.Compound selector.Selector (Combinator × K) (M × ℕ) M K S
      folded_link folded_part folded_simple folded_compound folded_selector v)

  -- what is made of a simple selector is what is made of it laid open
  out_folded : (x : Simple) (v : Layer) → simple.out-Simple x ≡ v → folded_simple x ≡ layer_folded v
  out_folded x v e = simple.fold_out-Simple (Combinator × K) (M × ℕ) M K S of_link of_part of_simple of_compound of_selector x ∙ ap layer_folded e

  -- What is made of each kind.
  pub folded-Class : (name : List ℕ) → folded_simple (simple.Class name) ≡ steps.class name
  folded-Class name = out_folded (simple.Class name) (Class name) (outs-Class name)

  pub folded-Id : (name : List ℕ) → folded_simple (simple.Id name) ≡ steps.id name
  folded-Id name = out_folded (simple.Id name) (Id name) (outs-Id name)

  pub folded-Attribute : (a : attribute.Attribute) → folded_simple (simple.Attribute a) ≡ steps.attribute a
  folded-Attribute a = out_folded (simple.Attribute a) (Attribute a) (outs-Attribute a)

  pub folded-Pseudo : (name : List ℕ) → folded_simple (simple.Pseudo name) ≡ steps.pseudo name
  folded-Pseudo name = out_folded (simple.Pseudo name) (Pseudo name) (outs-Pseudo name)

  pub folded-Parent : folded_simple simple.Parent ≡ steps.parent
  folded-Parent = out_folded simple.Parent Parent outs-Parent

  pub folded-Foreign : folded_simple simple.Foreign ≡ steps.foreign
  folded-Foreign = out_folded simple.Foreign Foreign outs-Foreign

  pub folded-Not : (ss : List selector.Selector) → folded_simple (simple.Not ss) ≡ steps.not_of (map folded_selector ss)
  folded-Not ss = out_folded (simple.Not ss) (Not ss) (outs-Not ss)

  pub folded-Is : (ss : List selector.Selector) → folded_simple (simple.Is ss) ≡ steps.is_of (map folded_selector ss)
  folded-Is ss = out_folded (simple.Is ss) (Is ss) (outs-Is ss)

  pub folded-Where : (ss : List selector.Selector) → folded_simple (simple.Where ss) ≡ steps.where_of (map folded_selector ss)
  folded-Where ss = out_folded (simple.Where ss) (Where ss) (outs-Where ss)

  pub folded-Local : (k : compound.Compound) → folded_simple (simple.Local k) ≡ steps.local (folded_compound k)
  folded-Local k = out_folded (simple.Local k) (Local k) (outs-Local k)

  pub folded-Global : (k : compound.Compound) → folded_simple (simple.Global k) ≡ steps.global (folded_compound k)
  folded-Global k = out_folded (simple.Global k) (Global k) (outs-Global k)

  -- what is made of the simple selector of a part, and its place
  abbrev pub made_part : part.Part → M × ℕ
  made_part p = (folded_simple (simple_of p), place_of p)

  -- the combinator of a link, and what is made of its compound
  abbrev pub made_link : link.Link → Combinator × K
  made_link l = (combinator_of l, folded_compound (compound_of l))

  abbrev part_layer : Part-F link.Link part.Part Simple compound.Compound selector.Selector → M × ℕ
  part_layer v =
      of_part (part.map-Part link.Link part.Part Simple compound.Compound selector.Selector (Combinator × K) (M × ℕ) M K S
      folded_link folded_part folded_simple folded_compound folded_selector v)

  abbrev link_layer : LinkLayer → Combinator × K
  link_layer v =
      of_link (link.map-Link link.Link part.Part Simple compound.Compound selector.Selector (Combinator × K) (M × ℕ) M K S
      folded_link folded_part folded_simple folded_compound folded_selector v)

  folded-Part : (p : part.Part) → folded_part p ≡ made_part p
  folded-Part (part.Placed x at) = part.fold_out-Part (Combinator × K) (M × ℕ) M K S of_link of_part of_simple of_compound of_selector (part.Placed x at) ∙ ap part_layer (outs-Placed x at)

  link_layers : (v : LinkLayer) → link_layer v ≡ (layer_combinator v, folded_compound (layer_compound v))
  link_layers (Linked c k) = refl

  folded-Link : (l : link.Link) → folded_link l ≡ made_link l
  folded-Link l = fold_out-Link (Combinator × K) (M × ℕ) M K S of_link of_part of_simple of_compound of_selector l ∙ link_layers (link.out-Link l)

  -- What is made of a compound, from its parts.
  pub folded-Compound : (k : compound.Compound) → folded_compound k ≡ steps.compound k.kind (map made_part k.parts) k.tail
  folded-Compound k =
      compound.fold_out-Compound (Combinator × K) (M × ℕ) M K S of_link of_part of_simple of_compound of_selector k
      ∙ ap (λ parts. steps.compound k.kind parts k.tail) (map-alike folded_part made_part folded-Part k.parts)

  -- What is made of a selector, from its compounds.
  pub folded-Selector : (s : selector.Selector) → folded_selector s ≡ steps.selector s.lead (folded_compound s.first) (map made_link s.rest) s.at
  folded-Selector s =
      selector.fold_out-Selector (Combinator × K) (M × ℕ) M K S of_link of_part of_simple of_compound of_selector s
      ∙ ap (λ rest. steps.selector s.lead (folded_compound s.first) rest s.at) (map-alike folded_link made_link folded-Link s.rest)
