-- A selector with its places at 0 is the same with its places at 0 once more.
use Rattle.std.proofs.Common.{◌≡◌, ℕ, List, [], ◌∷◌, map, refl, sym, ◌∙◌, ap}
use Rattle.selector_types.specs.declared.selector.Compound as compound
use Rattle.selector_types.specs.declared.selector.Link as link
use Rattle.selector_types.specs.declared.selector.Part as part
use Rattle.selector_types.specs.declared.selector.Selector.{Selector}
use Rattle.selector_types.specs.declared.selector.Simple.{Simple}
use Rattle.selector_types.specs.declared.selector.Simple as simple
use Rattle.selector_types.specs.BareFold.{BareSteps, bare_selector, placed}
use Rattle.selector_types.specs.Erased.{erased, erasing}
use Rattle.selector_types.specs.SameErased.{same-erased}
use Rattle.selector_types.specs.SelectorFold.{Steps, folded_selector}

-- the steps of `erased` again, none of which is told a place
abbrev bare_erasing : BareSteps Simple compound.Compound Selector
bare_erasing = record {
  class = λ n. simple.Class n;
  id = λ n. simple.Id n;
  attribute = λ a. simple.Attribute a;
  pseudo = λ n. simple.Pseudo n;
  not_of = λ ss. simple.Not ss;
  is_of = λ ss. simple.Is ss;
  where_of = λ ss. simple.Where ss;
  parent = simple.Parent;
  local = λ k. simple.Local k;
  global = λ k. simple.Global k;
  foreign = simple.Foreign;
  compound = λ kind simples tail. record { kind = kind; parts = map (λ x. part.Placed x 0) simples; tail = tail };
  selector = λ lead first rest. record { lead = lead; first = first; rest = map (λ l. link.Linked l.0 l.1) rest; at = 0 };
}

-- parts at the place 0, made with or without their places
parts-alike : (ps : List (Simple × ℕ)) → map (λ x. part.Placed x 0) (map (λ p. p.0) ps) ≡ map (λ p. part.Placed p.0 0) ps
parts-alike [] = refl
parts-alike (p ∷ ps) = ap (λ (qs : List part.Part). part.Placed p.0 0 ∷ qs) (parts-alike ps)

-- they are the steps of `erased`
steps-alike : placed bare_erasing ≡ erasing
steps-alike = λ i. record {
  class = λ n. simple.Class n;
  id = λ n. simple.Id n;
  attribute = λ a. simple.Attribute a;
  pseudo = λ n. simple.Pseudo n;
  not_of = λ ss. simple.Not ss;
  is_of = λ ss. simple.Is ss;
  where_of = λ ss. simple.Where ss;
  parent = simple.Parent;
  local = λ k. simple.Local k;
  global = λ k. simple.Global k;
  foreign = simple.Foreign;
  compound = λ kind parts tail. record { kind = kind; parts = parts-alike parts i; tail = tail };
  selector = λ lead first rest at. record { lead = lead; first = first; rest = map (λ l. link.Linked l.0 l.1) rest; at = 0 };
}

bare-is-erased : (s : Selector) → bare_selector bare_erasing s ≡ erased s
bare-is-erased s = ap (λ (steps : Steps Simple compound.Compound Selector). folded_selector steps s) steps-alike

erased-twice : (s : Selector) → erased (erased s) ≡ erased s
erased-twice s = sym (bare-is-erased (erased s)) ∙ same-erased bare_erasing s ∙ bare-is-erased s

pub all-erased-twice : (ss : List Selector) → map erased (map erased ss) ≡ map erased ss
all-erased-twice [] = refl
all-erased-twice (s ∷ ss) =
    ap (λ (t : Selector). t ∷ map erased (map erased ss)) (erased-twice s)
    ∙ ap (λ (ts : List Selector). erased s ∷ ts) (all-erased-twice ss)
