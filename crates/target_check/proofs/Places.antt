-- Older browsers read a selector exactly where they read it with its places at 0.
use Rattle.std.specs.Prelude.{flat_map, is_none}
use Rattle.std.specs.List.{list_all, AllByRecursion}
use Rattle.std.specs.Option.{option_map_or}
use Rattle.std.proofs.Common.{List, [], ◌∷◌, ◌++◌, map, ◌≡◌, Bool, false, ◌&&◌, Option, Some, None, refl, sym, ◌∙◌, ap}
use Rattle.selector_types.specs.declared.selector.Combinator.{Combinator}
use Rattle.selector_types.specs.declared.selector.Compound as compound
use Rattle.selector_types.specs.declared.selector.Link as link
use Rattle.selector_types.specs.declared.selector.Link.TheVariants.{outs-Linked}
use Rattle.selector_types.specs.declared.selector.Part as part
use Rattle.selector_types.specs.declared.selector.Selector as selector
use Rattle.selector_types.specs.declared.selector.Simple.{Simple}
use Rattle.selector_types.specs.declared.selector.Simple as simple
use Rattle.selector_types.specs.declared.selector.Simple.TheVariants.{outs-Not, outs-Is, outs-Where, outs-Local, outs-Global}
use Rattle.selector_types.specs.declared.selector.TypeName.{TypeName}
use Rattle.selector_types.specs.declared.selector.TypeName.TheVariants as types
use Rattle.selector_types.specs.Erased.{erasing, erased, erased_simple, erased_compound, erased_part, erased_link, erased-compound, erased-selector}
use Rattle.selector_types.specs.LoneSimples.{alone, is_basic, is_one, is_one_of, is_one_simple, opens_basic}
use Rattle.selector_types.specs.PartsFound.{within, parts-Not, parts-Is, parts-Where, parts-Local, parts-Global, parts-Compound, parts-Selector}
use Rattle.selector_types.specs.PartsWithin.{simple_parts, compound_parts, selector_parts, list_parts}
use Rattle.selector_types.specs.SelectorFold.{simple_of, compound_of, combinator_of, layer_compound, folded-Class, folded-Id, folded-Attribute, folded-Pseudo, folded-Not, folded-Is, folded-Where, folded-Parent, folded-Local, folded-Global, folded-Foreign}
use Rattle.selector_types.specs.SelectorInduction.{Cases, by_selectors}
use Rattle.target_check.specs.Targets.{is_old_opened, is_old_part, is_old_selector, is_old_simple}
use Rattle.target_check.proofs.Parts.{all-append}

abbrev all_old : List part.Part → Bool
all_old ps = list_all is_old_part ps

-- the compound that a selector is, where it is one alone, is one simple selector
abbrev is_lone : Option Combinator → List link.Link → compound.Compound → Bool
is_lone lead rest first = option_map_or (is_one is_basic) (alone lead rest first) false

-- What is the same with places at 0.

record SameSimple (x : Simple) : Type 0 where
  old : is_old_simple (erased_simple x) ≡ is_old_simple x
  basic : is_basic (erased_simple x) ≡ is_basic x
  parts : all_old (simple_parts (erased_simple x)) ≡ all_old (simple_parts x)

record SameCompound (k : compound.Compound) : Type 0 where
  one : is_one is_basic (erased_compound k) ≡ is_one is_basic k
  parts : all_old (compound_parts (erased_compound k)) ≡ all_old (compound_parts k)

record SameSelector (s : selector.Selector) : Type 0 where
  lone : is_lone (erased s).lead (erased s).rest (erased s).first ≡ is_lone s.lead s.rest s.first
  parts : all_old (selector_parts (erased s)) ≡ all_old (selector_parts s)

-- a simple selector without places in it
fixed : (x : Simple) → erased_simple x ≡ x → SameSimple x
fixed x e = record { old = ap is_old_simple e; basic = ap is_basic e; parts = ap (λ y. all_old (simple_parts y)) e }

both : (ps qs rs ts : List part.Part) → all_old ps ≡ all_old qs → all_old rs ≡ all_old ts → all_old (ps ++ rs) ≡ all_old (qs ++ ts)
both ps qs rs ts h k =
    all-append ps rs ∙ ap (λ b. b && all_old rs) h ∙ ap (λ b. all_old qs && b) k ∙ sym (all-append qs ts)

-- Lists.

members : (ss : List selector.Selector) → AllByRecursion SameSelector ss → all_old (list_parts (map erased ss)) ≡ all_old (list_parts ss)
members [] each = refl
members (s ∷ ss) each = both (selector_parts (erased s)) (selector_parts s) (list_parts (map erased ss)) (list_parts ss) each.0.parts (members ss each.1)

one-simple : (ss : List selector.Selector) → AllByRecursion SameSelector ss → is_one_simple (map erased ss) ≡ is_one_simple ss
one-simple [] each = refl
one-simple (s ∷ []) each = each.0.lone
one-simple (s ∷ t ∷ ss) each = refl

-- a simple selector made of a list
of_list : (make : List selector.Selector → Simple) (ss : List selector.Selector) → erased_simple (make ss) ≡ make (map erased ss)
    → is_old_simple (make (map erased ss)) ≡ is_old_simple (make ss) → is_basic (make (map erased ss)) ≡ is_basic (make ss)
    → ((ts : List selector.Selector) → simple_parts (make ts) ≡ list_parts ts) → AllByRecursion SameSelector ss → SameSimple (make ss)
of_list make ss e old basic parts each = record {
  old = ap is_old_simple e ∙ old;
  basic = ap is_basic e ∙ basic;
  parts = ap (λ y. all_old (simple_parts y)) e ∙ ap all_old (parts (map erased ss)) ∙ members ss each ∙ sym (ap all_old (parts ss));
}

-- a simple selector made of a compound
of_compound : (make : compound.Compound → Simple) (k : compound.Compound) → erased_simple (make k) ≡ make (erased_compound k)
    → is_old_simple (make (erased_compound k)) ≡ is_old_simple (make k) → is_basic (make (erased_compound k)) ≡ is_basic (make k)
    → ((j : compound.Compound) → simple_parts (make j) ≡ compound_parts j) → SameCompound k → SameSimple (make k)
of_compound make k e old basic parts same = record {
  old = ap is_old_simple e ∙ old;
  basic = ap is_basic e ∙ basic;
  parts = ap (λ y. all_old (simple_parts y)) e ∙ ap all_old (parts (erased_compound k)) ∙ same.parts ∙ sym (ap all_old (parts k));
}

-- Compounds.

one-of : (kind : TypeName) (ps : List part.Part) → AllByRecursion (λ p. SameSimple (simple_of p)) ps → is_one_of is_basic kind (map erased_part ps) ≡ is_one_of is_basic kind ps
one-of types.Universal [] each = refl
one-of types.Universal (p ∷ ps) each = refl
one-of (types.Name n) [] each = refl
one-of (types.Name n) (p ∷ ps) each = refl
one-of types.None [] each = refl
one-of types.None (p ∷ []) each = each.0.basic
one-of types.None (p ∷ q ∷ ps) each = refl

parts-same : (ps : List part.Part) → AllByRecursion (λ p. SameSimple (simple_of p)) ps → all_old (flat_map within (map erased_part ps)) ≡ all_old (flat_map within ps)
parts-same [] each = refl
parts-same (part.Placed x at ∷ ps) each =
    both (part.Placed (erased_simple x) 0 ∷ simple_parts (erased_simple x)) (part.Placed x at ∷ simple_parts x) (flat_map within (map erased_part ps)) (flat_map within ps)
    (ap (λ b. b && all_old (simple_parts (erased_simple x))) each.0.old ∙ ap (λ b. is_old_simple x && b) each.0.parts)
    (parts-same ps each.1)

compound-same : (k : compound.Compound) → AllByRecursion (λ p. SameSimple (simple_of p)) k.parts → SameCompound k
compound-same k each = record {
  one = ap (is_one is_basic) (erased-compound k) ∙ ap (λ b. is_none k.tail && b) (one-of k.kind k.parts each);
  parts =
      ap (λ j. all_old (compound_parts j)) (erased-compound k)
      ∙ ap all_old (parts-Compound (record { kind = k.kind; parts = map erased_part k.parts; tail = k.tail }))
      ∙ parts-same k.parts each
      ∙ sym (ap all_old (parts-Compound k));
}

-- Selectors.

links-same : (ls : List link.Link) → AllByRecursion (λ l. SameCompound (compound_of l)) ls
    → all_old (flat_map (λ l. compound_parts (compound_of l)) (map erased_link ls)) ≡ all_old (flat_map (λ l. compound_parts (compound_of l)) ls)
links-same [] each = refl
links-same (l ∷ ls) each =
    both (compound_parts (compound_of (erased_link l))) (compound_parts (compound_of l)) (flat_map (λ l. compound_parts (compound_of l)) (map erased_link ls)) (flat_map (λ l. compound_parts (compound_of l)) ls)
    (ap (λ v. all_old (compound_parts (layer_compound v))) (outs-Linked (combinator_of l) (erased_compound (compound_of l))) ∙ each.0.parts)
    (links-same ls each.1)

lone-same : (lead : Option Combinator) (rest : List link.Link) (k : compound.Compound) → SameCompound k → is_lone lead (map erased_link rest) (erased_compound k) ≡ is_lone lead rest k
lone-same None [] k same = same.one
lone-same None (l ∷ ls) k same = refl
lone-same (Some c) ls k same = refl

selector-same : (s : selector.Selector) → SameCompound s.first → AllByRecursion (λ l. SameCompound (compound_of l)) s.rest → SameSelector s
selector-same s first each = record {
  lone = ap (λ (t : selector.Selector). is_lone t.lead t.rest t.first) (erased-selector s) ∙ lone-same s.lead s.rest s.first first;
  parts =
      ap (λ t. all_old (selector_parts t)) (erased-selector s)
      ∙ ap all_old (parts-Selector (record { lead = s.lead; first = erased_compound s.first; rest = map erased_link s.rest; at = 0 }))
      ∙ both (compound_parts (erased_compound s.first)) (compound_parts s.first) (flat_map (λ l. compound_parts (compound_of l)) (map erased_link s.rest)) (flat_map (λ l. compound_parts (compound_of l)) s.rest)
      first.parts (links-same s.rest each)
      ∙ sym (ap all_old (parts-Selector s));
}

cases : Cases SameSimple SameCompound SameSelector
cases = record {
  class = λ n. fixed (simple.Class n) (folded-Class erasing n);
  id = λ n. fixed (simple.Id n) (folded-Id erasing n);
  attribute = λ a. fixed (simple.Attribute a) (folded-Attribute erasing a);
  pseudo = λ n. fixed (simple.Pseudo n) (folded-Pseudo erasing n);
  not_of = λ ss each.
      of_list (λ ts. simple.Not ts) ss (folded-Not erasing ss)
      (ap is_old_opened (outs-Not (map erased ss)) ∙ one-simple ss each ∙ sym (ap is_old_opened (outs-Not ss)))
      (ap opens_basic (outs-Not (map erased ss)) ∙ sym (ap opens_basic (outs-Not ss)))
      parts-Not each;
  is_of = λ ss each.
      of_list (λ ts. simple.Is ts) ss (folded-Is erasing ss)
      (ap is_old_opened (outs-Is (map erased ss)) ∙ sym (ap is_old_opened (outs-Is ss)))
      (ap opens_basic (outs-Is (map erased ss)) ∙ sym (ap opens_basic (outs-Is ss)))
      parts-Is each;
  where_of = λ ss each.
      of_list (λ ts. simple.Where ts) ss (folded-Where erasing ss)
      (ap is_old_opened (outs-Where (map erased ss)) ∙ sym (ap is_old_opened (outs-Where ss)))
      (ap opens_basic (outs-Where (map erased ss)) ∙ sym (ap opens_basic (outs-Where ss)))
      parts-Where each;
  parent = fixed simple.Parent (folded-Parent erasing);
  local = λ k same.
      of_compound (λ j. simple.Local j) k (folded-Local erasing k)
      (ap is_old_opened (outs-Local (erased_compound k)) ∙ sym (ap is_old_opened (outs-Local k)))
      (ap opens_basic (outs-Local (erased_compound k)) ∙ sym (ap opens_basic (outs-Local k)))
      parts-Local same;
  global = λ k same.
      of_compound (λ j. simple.Global j) k (folded-Global erasing k)
      (ap is_old_opened (outs-Global (erased_compound k)) ∙ sym (ap is_old_opened (outs-Global k)))
      (ap opens_basic (outs-Global (erased_compound k)) ∙ sym (ap opens_basic (outs-Global k)))
      parts-Global same;
  foreign = fixed simple.Foreign (folded-Foreign erasing);
  compound = compound-same;
  selector = selector-same;
}

old-erased : (s : selector.Selector) → is_old_selector (erased s) ≡ is_old_selector s
old-erased s =
    let lead : (erased s).lead ≡ s.lead = ap (λ (t : selector.Selector). t.lead) (erased-selector s) in
    ap (λ (lead : Option Combinator). is_none lead && all_old (selector_parts (erased s))) lead
    ∙ ap (λ b. is_none s.lead && b) (by_selectors SameSimple SameCompound SameSelector cases s).parts

all-erased : (ss : List selector.Selector) → list_all is_old_selector (map erased ss) ≡ list_all is_old_selector ss
all-erased [] = refl
all-erased (s ∷ ss) =
    ap (λ b. b && list_all is_old_selector (map erased ss)) (old-erased s)
    ∙ ap (λ b. is_old_selector s && b) (all-erased ss)

-- so it is of selectors that differ in places alone
pub old-alike : (ss ts : List selector.Selector) → map erased ss ≡ map erased ts → list_all is_old_selector ss ≡ list_all is_old_selector ts
old-alike ss ts e = sym (all-erased ss) ∙ ap (list_all is_old_selector) e ∙ all-erased ts
