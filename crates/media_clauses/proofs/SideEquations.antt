-- The clauses of each kind of condition.
use Rattle.std.proofs.Common.{◌≡◌, List, [], ◌∷◌, Bool, true, false, not, map, flat_map, refl, ◌∙◌, ap}
use Rattle.std.specs.Prelude.{if◌then◌else◌}
use Rattle.std.proofs.lemmas.List.Folds.{flat_map-map}
use Rattle.media_spelling.specs.declared.condition.Condition.{Condition}
use Rattle.media_spelling.specs.declared.condition.Condition as condition
use Rattle.media_spelling.specs.declared.condition.Feature.{Feature}
use Rattle.media_spelling.specs.declared.condition.Range.{Range}
use Rattle.media_spelling.specs.ConditionFold.{folded-And, folded-Or, folded-Not, folded-Feature, folded-Range}
use Rattle.media_clauses.specs.declared.clause.Fact.TheVariants as facts
use Rattle.media_clauses.specs.Clauses.{alone, clausal, products, range_literals, side, sides_of, turned}

-- the same side of each of several conditions
mapped : (positive : Bool) (cs : List Condition) → map (side positive) (map sides_of cs) ≡ map (λ c. side positive (sides_of c)) cs
mapped positive [] = refl
mapped positive (c ∷ cs) = ap (λ rest. side positive (sides_of c) ∷ rest) (mapped positive cs)

pub side-And : (positive : Bool) (cs : List Condition)
    → side positive (sides_of (condition.And cs)) ≡ (if positive then flat_map (λ c. side positive (sides_of c)) cs else products (map (λ c. side positive (sides_of c)) cs))
side-And true cs = ap (side true) (folded-And clausal cs) ∙ flat_map-map (side true) sides_of cs
side-And false cs = ap (side false) (folded-And clausal cs) ∙ ap products (mapped false cs)

pub side-Or : (positive : Bool) (cs : List Condition)
    → side positive (sides_of (condition.Or cs)) ≡ (if not positive then flat_map (λ c. side positive (sides_of c)) cs else products (map (λ c. side positive (sides_of c)) cs))
side-Or true cs = ap (side true) (folded-Or clausal cs) ∙ ap products (mapped true cs)
side-Or false cs = ap (side false) (folded-Or clausal cs) ∙ flat_map-map (side false) sides_of cs

pub side-Not : (positive : Bool) (c : Condition) → side positive (sides_of (condition.Not c)) ≡ side (not positive) (sides_of c)
side-Not true c = ap (side true) (folded-Not clausal c)
side-Not false c = ap (side false) (folded-Not clausal c)

pub side-Feature : (positive : Bool) (f : Feature) → side positive (sides_of (condition.Feature f)) ≡ alone (record { positive = positive; fact = facts.Feature f }) ∷ []
side-Feature true f = ap (side true) (folded-Feature clausal f)
side-Feature false f = ap (side false) (folded-Feature clausal f)

pub side-Range : (positive : Bool) (r : Range)
    → side positive (sides_of (condition.Range r)) ≡ side positive (record { pos = map alone (range_literals r); neg = record { literals = map turned (range_literals r) } ∷ [] })
side-Range positive r = ap (side positive) (folded-Range clausal r)

pub ruleset sides = (side-And, side-Or, side-Not, side-Feature, side-Range)
