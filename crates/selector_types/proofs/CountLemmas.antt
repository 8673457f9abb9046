-- The equations of specificity, one for each variant.
use Rattle.std.specs.Prelude.{ℕ, List, [], ◌∷◌, map, ◌≡◌}
use Rattle.std.proofs.Common.{refl, ◌∙◌, ap}
use Rattle.selector_types.specs.declared.triple.Specificity.{Specificity}
use Rattle.selector_types.specs.declared.selector.Simple as simple
use Rattle.selector_types.specs.declared.selector.Attribute as attribute
use Rattle.selector_types.specs.declared.selector.Compound as compound
use Rattle.selector_types.specs.declared.selector.Link as link
use Rattle.selector_types.specs.declared.selector.Part as part
use Rattle.selector_types.specs.declared.selector.Selector as selector
use Rattle.selector_types.specs.BareFold.{placed}
use Rattle.selector_types.specs.SelectorFold.{made_part, made_link, simple_of, compound_of, folded-Class, folded-Id, folded-Attribute, folded-Pseudo, folded-Not, folded-Is, folded-Where, folded-Parent, folded-Local, folded-Global, folded-Foreign, folded-Compound, folded-Selector}
use Rattle.selector_types.specs.Specificities.{counting, simple_specificity, compound_specificity, selector_specificity, one_class, one_id, nothing, greatest, sum_of, plus, type_specificity, tail_specificity}

pub count-Class : (m : Specificity) (n : List ℕ) → simple_specificity m (simple.Class n) ≡ one_class
count-Class m n = folded-Class (placed (counting m)) n

pub count-Id : (m : Specificity) (n : List ℕ) → simple_specificity m (simple.Id n) ≡ one_id
count-Id m n = folded-Id (placed (counting m)) n

pub count-Attribute : (m : Specificity) (a : attribute.Attribute) → simple_specificity m (simple.Attribute a) ≡ one_class
count-Attribute m a = folded-Attribute (placed (counting m)) a

pub count-Pseudo : (m : Specificity) (n : List ℕ) → simple_specificity m (simple.Pseudo n) ≡ one_class
count-Pseudo m n = folded-Pseudo (placed (counting m)) n

pub count-Not : (m : Specificity) (ss : List selector.Selector) → simple_specificity m (simple.Not ss) ≡ greatest (map (selector_specificity m) ss)
count-Not m ss = folded-Not (placed (counting m)) ss

pub count-Is : (m : Specificity) (ss : List selector.Selector) → simple_specificity m (simple.Is ss) ≡ greatest (map (selector_specificity m) ss)
count-Is m ss = folded-Is (placed (counting m)) ss

pub count-Where : (m : Specificity) (ss : List selector.Selector) → simple_specificity m (simple.Where ss) ≡ nothing
count-Where m ss = folded-Where (placed (counting m)) ss

pub count-Parent : (m : Specificity) → simple_specificity m simple.Parent ≡ m
count-Parent m = folded-Parent (placed (counting m))

pub count-Local : (m : Specificity) (k : compound.Compound) → simple_specificity m (simple.Local k) ≡ compound_specificity m k
count-Local m k = folded-Local (placed (counting m)) k

pub count-Global : (m : Specificity) (k : compound.Compound) → simple_specificity m (simple.Global k) ≡ compound_specificity m k
count-Global m k = folded-Global (placed (counting m)) k

pub count-Foreign : (m : Specificity) → simple_specificity m simple.Foreign ≡ nothing
count-Foreign m = folded-Foreign (placed (counting m))

pub ruleset counts = (count-Class, count-Id, count-Attribute, count-Pseudo, count-Not, count-Is, count-Where, count-Parent, count-Local, count-Global, count-Foreign)

in-parts : (m : Specificity) (ps : List part.Part) → map (λ p. p.0) (map (made_part (placed (counting m))) ps) ≡ map (λ p. simple_specificity m (simple_of p)) ps
in-parts m [] = refl
in-parts m (p ∷ ps) = ap (λ vs. simple_specificity m (simple_of p) ∷ vs) (in-parts m ps)

in-links : (m : Specificity) (ls : List link.Link) → map (λ l. l.1) (map (made_link (placed (counting m))) ls) ≡ map (λ l. compound_specificity m (compound_of l)) ls
in-links m [] = refl
in-links m (l ∷ ls) = ap (λ vs. compound_specificity m (compound_of l) ∷ vs) (in-links m ls)

pub count-compound : (m : Specificity) (k : compound.Compound) → compound_specificity m k ≡ plus (plus (type_specificity k.kind) (tail_specificity k.tail)) (sum_of (map (λ p. simple_specificity m (simple_of p)) k.parts))
count-compound m k = folded-Compound (placed (counting m)) k ∙ ap (λ vs. plus (plus (type_specificity k.kind) (tail_specificity k.tail)) (sum_of vs)) (in-parts m k.parts)

pub count-selector : (m : Specificity) (s : selector.Selector) → selector_specificity m s ≡ plus (compound_specificity m s.first) (sum_of (map (λ l. compound_specificity m (compound_of l)) s.rest))
count-selector m s = folded-Selector (placed (counting m)) s ∙ ap (λ vs. plus (compound_specificity m s.first) (sum_of vs)) (in-links m s.rest)

pub ruleset whole_counts = (count-compound, count-selector)
