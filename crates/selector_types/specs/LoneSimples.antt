-- Lists of one selector that is one simple selector alone (Selectors 4, section 3.1).
use Rattle.std.specs.Prelude.{List, [], ◌∷◌, Bool, true, false, ◌&&◌, ◌||◌, Option, Some, None, is_none}
use Rattle.std.specs.Option.{option_map_or}
use Rattle.selector_types.specs.declared.selector.Combinator.{Combinator}
use Rattle.selector_types.specs.declared.selector.TypeName.{TypeName}
use Rattle.selector_types.specs.declared.selector.TypeName.TheVariants as types
use Rattle.selector_types.specs.declared.selector.Simple.{Simple}
use Rattle.selector_types.specs.declared.selector.Simple as simple
use Rattle.selector_types.specs.declared.selector.Compound as compound
use Rattle.selector_types.specs.declared.selector.Link as link
use Rattle.selector_types.specs.declared.selector.Part as part
use Rattle.selector_types.specs.declared.selector.Selector as selector
use Rattle.selector_types.specs.declared.selector.Link.TheOpen.{Simple-F, Class, Id, Attribute, Pseudo, Not, Is, Where, Parent, Local, Global, Foreign}
use Rattle.selector_types.specs.SelectorFold.{simple_of}

-- a simple selector, laid open
abbrev pub Opened : Type 0
Opened = Simple-F link.Link part.Part Simple compound.Compound selector.Selector

-- is it a class, an id, an attribute selector, or a pseudo-class that takes no selectors?
abbrev pub opens_basic : Opened → Bool
opens_basic (Class name) = true
opens_basic (Id name) = true
opens_basic (Attribute a) = true
opens_basic (Pseudo text) = true
opens_basic (Not ss) = false
opens_basic (Is ss) = false
opens_basic (Where ss) = false
opens_basic Parent = false
opens_basic (Local k) = false
opens_basic (Global k) = false
opens_basic Foreign = false

-- the same of a simple selector
abbrev pub is_basic : Simple → Bool
is_basic x = opens_basic (simple.out-Simple x)

-- is there no part?
abbrev pub is_partless : List part.Part → Bool
is_partless [] = true
is_partless (p ∷ ps) = false

-- are the type selector and the parts one thing: a type selector or `*`, or one part of which the test holds?
abbrev pub is_one_of : (Simple → Bool) → TypeName → List part.Part → Bool
is_one_of test types.Universal ps = is_partless ps
is_one_of test (types.Name name) ps = is_partless ps
is_one_of test types.None [] = false
is_one_of test types.None (p ∷ []) = test (simple_of p)
is_one_of test types.None (p ∷ q ∷ ps) = false

-- the same of a compound, which then has no pseudo-element
abbrev pub is_one : (Simple → Bool) → compound.Compound → Bool
is_one test k = is_none k.tail && is_one_of test k.kind k.parts

-- the first compound, where nothing leads it and nothing follows
abbrev pub alone : Option Combinator → List link.Link → compound.Compound → Option compound.Compound
alone None [] k = Some k
alone None (l ∷ ls) k = None
alone (Some combinator) ls k = None

-- the compound that a list is, where it is one selector of one compound
abbrev pub only_compound : List selector.Selector → Option compound.Compound
only_compound [] = None
only_compound (s ∷ t ∷ ss) = None
only_compound (s ∷ []) = alone s.lead s.rest s.first

-- is the list one simple selector, which holds no selector?
abbrev pub is_one_simple : List selector.Selector → Bool
is_one_simple ss = option_map_or (is_one is_basic) (only_compound ss) false

-- is it `:local(..)` or `:global(..)` of one such simple selector?
abbrev pub opens_scoped : Opened → Bool
opens_scoped (Local k) = is_one is_basic k
opens_scoped (Global k) = is_one is_basic k
opens_scoped (Class name) = false
opens_scoped (Id name) = false
opens_scoped (Attribute a) = false
opens_scoped (Pseudo text) = false
opens_scoped (Not ss) = false
opens_scoped (Is ss) = false
opens_scoped (Where ss) = false
opens_scoped Parent = false
opens_scoped Foreign = false

-- a simple selector without selectors in it, or one whose names are made local or global
abbrev pub is_scopable : Simple → Bool
is_scopable x = is_basic x || opens_scoped (simple.out-Simple x)

-- is the list one simple selector, which holds no selector, or whose names are made local or global?
abbrev pub is_one_scopable : List selector.Selector → Bool
is_one_scopable ss = option_map_or (is_one is_scopable) (only_compound ss) false
