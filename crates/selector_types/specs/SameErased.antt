-- What looks at no place is the same of a selector with its places at 0.
use Rattle.std.specs.Prelude.{List, [], ◌∷◌, map, ◌≡◌}
use Rattle.std.specs.List.{AllByRecursion}
use Rattle.std.proofs.Common.{refl, sym, ◌∙◌, ap}
use Rattle.selector_types.specs.declared.selector.Link.TheVariants.{outs-Linked}
use Rattle.selector_types.specs.declared.selector.Combinator.{Combinator}
use Rattle.selector_types.specs.declared.selector.Simple.{Simple}
use Rattle.selector_types.specs.declared.selector.Compound as compound
use Rattle.selector_types.specs.declared.selector.Link as link
use Rattle.selector_types.specs.declared.selector.Part as part
use Rattle.selector_types.specs.declared.selector.Selector as selector
use Rattle.selector_types.specs.SelectorFold.{made_part, made_link, simple_of, compound_of, combinator_of, layer_combinator, layer_compound, folded-Class, folded-Id, folded-Attribute, folded-Pseudo, folded-Not, folded-Is, folded-Where, folded-Parent, folded-Local, folded-Global, folded-Foreign, folded-Compound, folded-Selector}
use Rattle.selector_types.specs.SelectorInduction.{by_compounds, by_selectors, each_link, Cases}
use Rattle.selector_types.specs.BareFold.{BareSteps, placed, bare_simple, bare_compound, bare_selector}
use Rattle.selector_types.specs.Erased.{erasing, erased, erased_simple, erased_compound}

module _ {M K S : Type 0} (steps : BareSteps M K S) where
  abbrev P : Simple → Type 0
  P x = bare_simple steps (erased_simple x) ≡ bare_simple steps x

  abbrev Q : compound.Compound → Type 0
  Q k = bare_compound steps (erased_compound k) ≡ bare_compound steps k

  abbrev R : selector.Selector → Type 0
  R s = bare_selector steps (erased s) ≡ bare_selector steps s

  lists-same : (ss : List selector.Selector) → AllByRecursion R ss → map (bare_selector steps) (map erased ss) ≡ map (bare_selector steps) ss
  lists-same [] each = refl
  lists-same (s ∷ ss) each = ap (λ v. v ∷ map (bare_selector steps) (map erased ss)) each.0 ∙ ap (λ vs. bare_selector steps s ∷ vs) (lists-same ss each.1)

  abbrev simples_in : List part.Part → List M
  simples_in ps = map (λ p. p.0) (map (made_part (placed steps)) ps)

  abbrev erased_parts : List part.Part → List part.Part
  erased_parts ps = map (λ p. part.Placed p.0 0) (map (made_part erasing) ps)

  parts-same : (ps : List part.Part) → AllByRecursion (λ p. P (simple_of p)) ps → simples_in (erased_parts ps) ≡ simples_in ps
  parts-same [] each = refl
  parts-same (p ∷ ps) each = ap (λ v. v ∷ simples_in (erased_parts ps)) each.0 ∙ ap (λ vs. bare_simple steps (simple_of p) ∷ vs) (parts-same ps each.1)

  abbrev pub links_in : List link.Link → List (Combinator × K)
  links_in ls = map (made_link (placed steps)) ls

  abbrev pub erased_links : List link.Link → List link.Link
  erased_links ls = map (λ l. link.Linked l.0 l.1) (map (made_link erasing) ls)

  pub linked : (c : Combinator) (k : compound.Compound) → made_link (placed steps) (link.Linked c k) ≡ (c, bare_compound steps k)
  linked c k = ap (λ v. (layer_combinator v, bare_compound steps (layer_compound v))) (outs-Linked c k)

  links-same : (ls : List link.Link) → AllByRecursion (λ l. Q (compound_of l)) ls → links_in (erased_links ls) ≡ links_in ls
  links-same [] each = refl
  links-same (l ∷ ls) each =
      ap (λ v. v ∷ links_in (erased_links ls)) (linked (combinator_of l) (erased_compound (compound_of l)) ∙ ap (λ k. (combinator_of l, k)) each.0)
      ∙ ap (λ vs. made_link (placed steps) l ∷ vs) (links-same ls each.1)

  cases : Cases P Q R
  cases = record {
    class = λ n. ap (bare_simple steps) (folded-Class erasing n);
    id = λ n. ap (bare_simple steps) (folded-Id erasing n);
    attribute = λ a. ap (bare_simple steps) (folded-Attribute erasing a);
    pseudo = λ n. ap (bare_simple steps) (folded-Pseudo erasing n);
    not_of = λ ss each. ap (bare_simple steps) (folded-Not erasing ss) ∙ folded-Not (placed steps) (map erased ss) ∙ ap steps.not_of (lists-same ss each) ∙ sym (folded-Not (placed steps) ss);
    is_of = λ ss each. ap (bare_simple steps) (folded-Is erasing ss) ∙ folded-Is (placed steps) (map erased ss) ∙ ap steps.is_of (lists-same ss each) ∙ sym (folded-Is (placed steps) ss);
    where_of = λ ss each. ap (bare_simple steps) (folded-Where erasing ss) ∙ folded-Where (placed steps) (map erased ss) ∙ ap steps.where_of (lists-same ss each) ∙ sym (folded-Where (placed steps) ss);
    parent = ap (bare_simple steps) (folded-Parent erasing);
    local = λ k same. ap (bare_simple steps) (folded-Local erasing k) ∙ folded-Local (placed steps) (erased_compound k) ∙ ap steps.local same ∙ sym (folded-Local (placed steps) k);
    global = λ k same. ap (bare_simple steps) (folded-Global erasing k) ∙ folded-Global (placed steps) (erased_compound k) ∙ ap steps.global same ∙ sym (folded-Global (placed steps) k);
    foreign = ap (bare_simple steps) (folded-Foreign erasing);
    compound = λ k each.
        ap (bare_compound steps) (folded-Compound erasing k)
        ∙ folded-Compound (placed steps) (record { kind = k.kind; parts = erased_parts k.parts; tail = k.tail })
        ∙ ap (λ ms. steps.compound k.kind ms k.tail) (parts-same k.parts each)
        ∙ sym (folded-Compound (placed steps) k);
    selector = λ s first each.
        ap (bare_selector steps) (folded-Selector erasing s)
        ∙ folded-Selector (placed steps) (record { lead = s.lead; first = erased_compound s.first; rest = erased_links s.rest; at = 0 })
        ∙ ap (λ k. steps.selector s.lead k (links_in (erased_links s.rest))) first
        ∙ ap (λ ls. steps.selector s.lead (bare_compound steps s.first) ls) (links-same s.rest each)
        ∙ sym (folded-Selector (placed steps) s);
  }

  -- what looks at no place is the same of a selector with its places at 0
  pub same-erased : (s : selector.Selector) → bare_selector steps (erased s) ≡ bare_selector steps s
  same-erased s = by_selectors P Q R cases s

  -- so of two selectors that differ in places alone it is the same
  pub same-but-places : (s t : selector.Selector) → erased s ≡ erased t → bare_selector steps s ≡ bare_selector steps t
  same-but-places s t same = sym (same-erased s) ∙ ap (bare_selector steps) same ∙ same-erased t

  pub same-compound : (k : compound.Compound) → bare_compound steps (erased_compound k) ≡ bare_compound steps k
  same-compound k = by_compounds P Q R cases k

  pub same-links : (ls : List link.Link) → links_in (erased_links ls) ≡ links_in ls
  same-links ls = links-same ls (each_link P Q R cases ls)
