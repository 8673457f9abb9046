-- The parts of selectors at any depth: those of their compounds, and those in the arguments of these.
use Rattle.std.specs.Prelude.{List, [], ◌∷◌, ◌++◌, map, flat_map}
use Rattle.selector_types.specs.declared.selector.Simple.{Simple}
use Rattle.selector_types.specs.declared.selector.Simple as simple
use Rattle.selector_types.specs.declared.selector.Compound as compound
use Rattle.selector_types.specs.declared.selector.Link as link
use Rattle.selector_types.specs.declared.selector.Part as part
use Rattle.selector_types.specs.declared.selector.Selector as selector
use Rattle.selector_types.specs.SelectorFold.{Steps, folded_simple, folded_compound, folded_selector}

-- a tree, and the parts that stand in it
pub record Parted (A : Type 0) : Type 0 where
  pub itself : A
  pub parts : List part.Part

-- a simple selector in which no part stands
abbrev pub partless : Simple → Parted Simple
partless x = record { itself = x; parts = [] }

-- a simple selector made of a list, in which the parts of the members stand
abbrev pub of_members : (List selector.Selector → Simple) → List (Parted selector.Selector) → Parted Simple
of_members make ss = record { itself = make (map (λ s. s.itself) ss); parts = flat_map (λ s. s.parts) ss }

-- a simple selector made of a compound, in which its parts stand
abbrev pub of_argument : (compound.Compound → Simple) → Parted compound.Compound → Parted Simple
of_argument make k = record { itself = make k.itself; parts = k.parts }

-- each made anew, with the parts that stand in it: a part stands before those in it
abbrev pub parting : Steps (Parted Simple) (Parted compound.Compound) (Parted selector.Selector)
parting = record {
  class = λ n. partless (simple.Class n);
  id = λ n. partless (simple.Id n);
  attribute = λ a. partless (simple.Attribute a);
  pseudo = λ n. partless (simple.Pseudo n);
  not_of = of_members (λ ss. simple.Not ss);
  is_of = of_members (λ ss. simple.Is ss);
  where_of = of_members (λ ss. simple.Where ss);
  parent = partless simple.Parent;
  local = of_argument (λ k. simple.Local k);
  global = of_argument (λ k. simple.Global k);
  foreign = partless simple.Foreign;
  compound = λ kind ps tail. record {
    itself = record { kind = kind; parts = map (λ p. part.Placed p.0.itself p.1) ps; tail = tail };
    parts = flat_map (λ p. part.Placed p.0.itself p.1 ∷ p.0.parts) ps;
  };
  selector = λ lead first rest at. record {
    itself = record { lead = lead; first = first.itself; rest = map (λ l. link.Linked l.0 l.1.itself) rest; at = at };
    parts = first.parts ++ flat_map (λ l. l.1.parts) rest;
  };
}

-- the parts in the argument of a simple selector
abbrev pub simple_parts : Simple → List part.Part
simple_parts x = (folded_simple parting x).parts

-- the parts of a compound, at any depth
abbrev pub compound_parts : compound.Compound → List part.Part
compound_parts k = (folded_compound parting k).parts

-- the parts of a selector, at any depth
abbrev pub selector_parts : selector.Selector → List part.Part
selector_parts s = (folded_selector parting s).parts

-- the parts of the selectors of a list, at any depth
abbrev pub list_parts : List selector.Selector → List part.Part
list_parts ss = flat_map selector_parts ss
