-- Which media features stand under a `not`.
use Rattle.std.specs.Prelude.{flat_map}
use Rattle.std.specs.List.{list_any}
use Rattle.std.proofs.Common.{◌≡◌, List, Bool, true, false, ◌&&◌, ◌||◌, refl, ◌∙◌, ap}
use Rattle.std.proofs.lemmas.List.Folds.{flat_map-map}
use Rattle.media_spelling.specs.ConditionFold.{folded-And, folded-Or, folded-Not, folded-Feature, folded-Range}
use Rattle.media_spelling.specs.declared.condition.Condition.{Condition}
use Rattle.media_spelling.specs.declared.condition.Condition as condition
use Rattle.media_spelling.specs.declared.condition.Feature.{Feature}
use Rattle.media_spelling.specs.declared.condition.Range.{Range}
use Rattle.findings.specs.MediaFeatures.{Features, features_in, is_young, naming, under_not}

-- does one stand in the condition, or only under a `not` of it?
abbrev pub young_in : Bool → Condition → Bool
young_in negated c = list_any is_young (under_not negated (features_in c))

abbrev pub young_among : Bool → List Condition → Bool
young_among negated cs = list_any is_young (flat_map (λ c. under_not negated (features_in c)) cs)

under-And : (negated : Bool) (cs : List Condition) → under_not negated (features_in (condition.And cs)) ≡ flat_map (λ c. under_not negated (features_in c)) cs
under-And true cs = ap (λ (f : Features). f.names) (folded-And naming cs) ∙ flat_map-map (λ (f : Features). f.names) features_in cs
under-And false cs = ap (λ (f : Features). f.negated) (folded-And naming cs) ∙ flat_map-map (λ (f : Features). f.negated) features_in cs

under-Or : (negated : Bool) (cs : List Condition) → under_not negated (features_in (condition.Or cs)) ≡ flat_map (λ c. under_not negated (features_in c)) cs
under-Or true cs = ap (λ (f : Features). f.names) (folded-Or naming cs) ∙ flat_map-map (λ (f : Features). f.names) features_in cs
under-Or false cs = ap (λ (f : Features). f.negated) (folded-Or naming cs) ∙ flat_map-map (λ (f : Features). f.negated) features_in cs

under-Not : (negated : Bool) (c : Condition) → under_not negated (features_in (condition.Not c)) ≡ (features_in c).names
under-Not true c = ap (λ (f : Features). f.names) (folded-Not naming c)
under-Not false c = ap (λ (f : Features). f.negated) (folded-Not naming c)

pub young-And : (negated : Bool) (cs : List Condition) → young_in negated (condition.And cs) ≡ young_among negated cs
young-And negated cs = ap (list_any is_young) (under-And negated cs)

pub young-Or : (negated : Bool) (cs : List Condition) → young_in negated (condition.Or cs) ≡ young_among negated cs
young-Or negated cs = ap (list_any is_young) (under-Or negated cs)

pub young-Not : (negated : Bool) (c : Condition) → young_in negated (condition.Not c) ≡ young_in true c
young-Not negated c = ap (list_any is_young) (under-Not negated c)

or-false : (b : Bool) → (b || false) ≡ b
or-false true = refl
or-false false = refl

pub young-Feature : (negated : Bool) (f : Feature) → young_in negated (condition.Feature f) ≡ (negated && is_young f.name)
young-Feature true f = ap (λ (g : Features). list_any is_young g.names) (folded-Feature naming f) ∙ or-false (is_young f.name)
young-Feature false f = ap (λ (g : Features). list_any is_young g.negated) (folded-Feature naming f)

pub young-Range : (negated : Bool) (r : Range) → young_in negated (condition.Range r) ≡ (negated && is_young r.name)
young-Range true r = ap (λ (g : Features). list_any is_young g.names) (folded-Range naming r) ∙ or-false (is_young r.name)
young-Range false r = ap (λ (g : Features). list_any is_young g.negated) (folded-Range naming r)

pub ruleset young = (young-And, young-Or, young-Not, young-Feature, young-Range)
