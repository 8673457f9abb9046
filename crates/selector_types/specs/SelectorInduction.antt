-- What holds of every simple selector, compound and selector.
use Rattle.std.specs.Prelude.{ℕ, List, [], ◌∷◌, map}
use Rattle.std.specs.List.{AllByRecursion}
use Rattle.std.proofs.Common.{sym, subst}
use Rattle.selector_types.specs.declared.selector.Attribute as attribute
use Rattle.selector_types.specs.declared.selector.Simple.{Simple, roll-Simple}
use Rattle.selector_types.specs.SelectorFold.{simple_of, compound_of, layer_compound}
use Rattle.selector_types.specs.declared.selector.Simple as simple
use Rattle.selector_types.specs.declared.selector.Compound as compound
use Rattle.selector_types.specs.declared.selector.Link as link
use Rattle.selector_types.specs.declared.selector.Part as part
use Rattle.selector_types.specs.declared.selector.Selector as selector
use Rattle.selector_types.specs.declared.selector.Link.TheOpen.{Link-F, Part-F, Linked, Placed, Simple-F, Class, Id, Attribute, Pseudo, Not, Is, Where, Parent, Local, Global, Foreign}
use Rattle.selector_types.specs.declared.selector.Link.TheVariants.{outs-Linked, rolls-Linked}
use Rattle.selector_types.specs.declared.selector.Part.TheVariants.{rolls-Placed}
use Rattle.selector_types.specs.declared.selector.Simple.TheVariants.{rolls-Class, rolls-Id, rolls-Attribute, rolls-Pseudo, rolls-Not, rolls-Is, rolls-Where, rolls-Parent, rolls-Local, rolls-Global, rolls-Foreign}

-- what is shown of each, from what holds of what stands in it
pub record Cases (P : Simple → Type 0) (Q : compound.Compound → Type 0) (R : selector.Selector → Type 0) : Type 0 where
  pub class : (name : List ℕ) → P (simple.Class name)
  pub id : (name : List ℕ) → P (simple.Id name)
  pub attribute : (a : attribute.Attribute) → P (simple.Attribute a)
  pub pseudo : (name : List ℕ) → P (simple.Pseudo name)
  pub not_of : (ss : List selector.Selector) → AllByRecursion R ss → P (simple.Not ss)
  pub is_of : (ss : List selector.Selector) → AllByRecursion R ss → P (simple.Is ss)
  pub where_of : (ss : List selector.Selector) → AllByRecursion R ss → P (simple.Where ss)
  pub parent : P simple.Parent
  pub local : (k : compound.Compound) → Q k → P (simple.Local k)
  pub global : (k : compound.Compound) → Q k → P (simple.Global k)
  pub foreign : P simple.Foreign
  pub compound : (k : compound.Compound) → AllByRecursion (λ p. P (simple_of p)) k.parts → Q k
  pub selector : (s : selector.Selector) → Q s.first → AllByRecursion (λ l. Q (compound_of l)) s.rest → R s

-- what holds of each of several holds of the list
each_of : {A : Type 0} (P : A → Type 0) (ys : List ((x : A) × P x)) → AllByRecursion P (map (λ e. e.0) ys)
each_of P [] = tt
each_of P (y ∷ ys) = (y.1, each_of P ys)

module _ (P : Simple → Type 0) (Q : compound.Compound → Type 0) (R : selector.Selector → Type 0) (cases : Cases P Q R) where
  -- what holds of links: it holds of their compounds
  abbrev OfLink : link.Link → Type 0
  OfLink l = Q (compound_of l)

  -- what holds of parts: it holds of their simple selectors
  abbrev OfPart : part.Part → Type 0
  OfPart p = P (simple_of p)

  -- a simple selector, with what holds of what stands in it
  abbrev Known : Type 0
  Known = Simple-F ((l : link.Link) × OfLink l) ((p : part.Part) × OfPart p) ((x : Simple) × P x) ((k : compound.Compound) × Q k) ((s : selector.Selector) × R s)

  -- the simple selector alone
  abbrev made : Known → Simple-F link.Link part.Part Simple compound.Compound selector.Selector
  made = simple.map-Simple ((l : link.Link) × OfLink l) ((p : part.Part) × OfPart p) ((x : Simple) × P x) ((k : compound.Compound) × Q k) ((s : selector.Selector) × R s) link.Link part.Part Simple compound.Compound selector.Selector (λ e. e.0) (λ e. e.0) (λ e. e.0) (λ e. e.0) (λ e. e.0)

  step : (y : Known) → P (roll-Simple (made y))
  step (Class name) = subst P (sym (rolls-Class name)) (cases.class name)
  step (Id name) = subst P (sym (rolls-Id name)) (cases.id name)
  step (Attribute a) = subst P (sym (rolls-Attribute a)) (cases.attribute a)
  step (Pseudo name) = subst P (sym (rolls-Pseudo name)) (cases.pseudo name)
  step (Not es) = subst P (sym (rolls-Not (map (λ e. e.0) es))) (cases.not_of (map (λ e. e.0) es) (each_of R es))
  step (Is es) = subst P (sym (rolls-Is (map (λ e. e.0) es))) (cases.is_of (map (λ e. e.0) es) (each_of R es))
  step (Where es) = subst P (sym (rolls-Where (map (λ e. e.0) es))) (cases.where_of (map (λ e. e.0) es) (each_of R es))
  step Parent = subst P (sym rolls-Parent) cases.parent
  step (Local e) = subst P (sym (rolls-Local e.0)) (cases.local e.0 e.1)
  step (Global e) = subst P (sym (rolls-Global e.0)) (cases.global e.0 e.1)
  step Foreign = subst P (sym rolls-Foreign) cases.foreign

  link_step : (y : Link-F ((l : link.Link) × OfLink l) ((p : part.Part) × OfPart p) ((x : Simple) × P x) ((k : compound.Compound) × Q k) ((s : selector.Selector) × R s)) → OfLink (link.roll-Link (link.map-Link ((l : link.Link) × OfLink l) ((p : part.Part) × OfPart p) ((x : Simple) × P x) ((k : compound.Compound) × Q k) ((s : selector.Selector) × R s) link.Link part.Part Simple compound.Compound selector.Selector (λ e. e.0) (λ e. e.0) (λ e. e.0) (λ e. e.0) (λ e. e.0) y))
  link_step (Linked c e) = subst OfLink (sym (rolls-Linked c e.0)) (subst (λ v. Q (layer_compound v)) (sym (outs-Linked c e.0)) e.1)

  part_step : (y : Part-F ((l : link.Link) × OfLink l) ((p : part.Part) × OfPart p) ((x : Simple) × P x) ((k : compound.Compound) × Q k) ((s : selector.Selector) × R s)) → OfPart (part.roll-Part (part.map-Part ((l : link.Link) × OfLink l) ((p : part.Part) × OfPart p) ((x : Simple) × P x) ((k : compound.Compound) × Q k) ((s : selector.Selector) × R s) link.Link part.Part Simple compound.Compound selector.Selector (λ e. e.0) (λ e. e.0) (λ e. e.0) (λ e. e.0) (λ e. e.0) y))
  part_step (Placed e at) = subst OfPart (sym (rolls-Placed e.0 at)) e.1

  -- So it holds of every simple selector.
  pub by_simples : (x : Simple) → P x
  by_simples x =
      simple.ind-Simple OfLink OfPart P Q R
      (λ x y is. subst (λ z. OfLink (link.roll-Link z)) is (link_step y))
      (λ x y is. subst (λ z. OfPart (part.roll-Part z)) is (part_step y))
      (λ x y is. subst (λ z. P (roll-Simple z)) is (step y))
      (λ x y is. subst (λ z. Q (compound.roll-Compound z)) is (cases.compound (record { kind = y.kind; parts = map (λ e. e.0) y.parts; tail = y.tail }) (each_of OfPart y.parts)))
      (λ x y is. subst (λ z. R (selector.roll-Selector z)) is (cases.selector (record { lead = y.lead; first = y.first.0; rest = map (λ e. e.0) y.rest; at = y.at }) y.first.1 (each_of OfLink y.rest)))
      x

  each_part : (ps : List part.Part) → AllByRecursion OfPart ps
  each_part [] = tt
  each_part (p ∷ ps) = (by_simples (simple_of p), each_part ps)

  -- So it holds of compounds and of selectors.
  pub by_compounds : (k : compound.Compound) → Q k
  by_compounds k = cases.compound k (each_part k.parts)

  pub each_link : (ls : List link.Link) → AllByRecursion OfLink ls
  each_link [] = tt
  each_link (l ∷ ls) = (by_compounds (compound_of l), each_link ls)

  pub by_selectors : (s : selector.Selector) → R s
  by_selectors s = cases.selector s (by_compounds s.first) (each_link s.rest)

  pub by_lists : (ss : List selector.Selector) → AllByRecursion R ss
  by_lists [] = tt
  by_lists (s ∷ ss) = (by_selectors s, by_lists ss)
