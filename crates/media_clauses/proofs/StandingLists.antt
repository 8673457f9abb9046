-- Each value in a list of a lowered form stands as one, where each in the media list does.
use Rattle.std.proofs.Common.{ℕ, List, [], ◌∷◌, map, flat_map, sym, subst}
use Rattle.std.specs.Prelude.{Option, Some, None}
use Rattle.std.specs.List.{AllByRecursion}
use Rattle.media_spelling.specs.declared.condition.Bound.{Bound}
use Rattle.media_spelling.specs.declared.condition.Condition.{Condition}
use Rattle.media_spelling.specs.declared.condition.Feature.{Feature}
use Rattle.media_spelling.specs.declared.condition.Query.{Query}
use Rattle.media_spelling.specs.ConditionFold.{folded-And, folded-Or, folded-Not, folded-Feature, folded-Range}
use Rattle.media_spelling.specs.ConditionInduction.{Each, by_conditions}
use Rattle.media_tree.specs.ReadValues.{StandsAsValue, ValuesStand, bound_values, feature_values, values, values_behind, values_in, values_of}
use Rattle.media_tree.proofs.ListsHold.{each-append, each-back, each-by, each-front}
use Rattle.media_clauses.specs.Lowered.{lowered, range_features}
use Rattle.media_clauses.proofs.FactsOfLists.{BehindIs, ListIs, TypeIs, features_in, gathering, lowered-are}

-- any media type, and a feature whose value stands
abbrev IsType : List ℕ → Type 0
IsType media = Unit {0}

abbrev AreValues : List (List ℕ) → Type 0
AreValues vs = AllByRecursion StandsAsValue vs

abbrev IsFeature : Feature → Type 0
IsFeature f = AreValues (feature_values f.value)

abbrev AreFeatures : List Feature → Type 0
AreFeatures fs = AllByRecursion IsFeature fs

-- the values of conditions, and their features
abbrev row_values : List Condition → List (List ℕ)
row_values cs = flat_map (λ v. v) (map values_in cs)

abbrev row_features : List Condition → List Feature
row_features cs = flat_map (λ f. f) (map features_in cs)

-- From values to features.

bounds-features : (name : List ℕ) (first : Bound) (second : Option Bound) → AreValues (first.value ∷ bound_values second) → AreFeatures (range_features (record { name = name; first = first; second = second }))
bounds-features name first None h = ((h.0, tt), tt)
bounds-features name first (Some second) h = ((h.0, tt), ((h.1.0, tt), tt))

abbrev GivesFeatures : Condition → Type 0
GivesFeatures c = AreValues (values_in c) → AreFeatures (features_in c)

each-features : (cs : List Condition) → Each GivesFeatures cs → AreValues (row_values cs) → AreFeatures (row_features cs)
each-features [] hs h = tt
each-features (c ∷ cs) hs h =
    each-append IsFeature (features_in c) (row_features cs)
    (hs.0 (each-front StandsAsValue (values_in c) (row_values cs) h))
    (each-features cs hs.1 (each-back StandsAsValue (values_in c) (row_values cs) h))

gives-features : (c : Condition) → GivesFeatures c
gives-features = by_conditions GivesFeatures (record {
  and_of = λ cs hs h. subst AreFeatures (sym (folded-And gathering cs)) (each-features cs hs (subst AreValues (folded-And values cs) h));
  or_of = λ cs hs h. subst AreFeatures (sym (folded-Or gathering cs)) (each-features cs hs (subst AreValues (folded-Or values cs) h));
  not_of = λ c k h. subst AreFeatures (sym (folded-Not gathering c)) (k (subst AreValues (folded-Not values c) h));
  feature = λ f h. subst AreFeatures (sym (folded-Feature gathering f)) (subst AreValues (folded-Feature values f) h, tt);
  range = λ r h. subst AreFeatures (sym (folded-Range gathering r)) (bounds-features r.name r.first r.second (subst AreValues (folded-Range values r) h));
})

type-stands : (media : Option (List ℕ)) → TypeIs IsType IsFeature media
type-stands None = tt
type-stands (Some media) = tt

behind-features : (o : Option Condition) → AreValues (values_behind o) → BehindIs IsType IsFeature o
behind-features None h = tt
behind-features (Some c) h = gives-features c h

list-features : (qs : List Query) → ValuesStand qs → ListIs IsType IsFeature qs
list-features [] h = tt
list-features (q ∷ qs) h = (
  record { type = type-stands q.media; behind = behind-features q.condition (each-front StandsAsValue (values_behind q.condition) (values_of qs) h) },
  list-features qs (each-back StandsAsValue (values_behind q.condition) (values_of qs) h),
)

-- From features to values.

bounds-values : (name : List ℕ) (first : Bound) (second : Option Bound) → AreFeatures (range_features (record { name = name; first = first; second = second })) → AreValues (first.value ∷ bound_values second)
bounds-values name first None h = (h.0.0, tt)
bounds-values name first (Some second) h = (h.0.0, (h.1.0.0, tt))

abbrev GivesValues : Condition → Type 0
GivesValues c = AreFeatures (features_in c) → AreValues (values_in c)

each-values : (cs : List Condition) → Each GivesValues cs → AreFeatures (row_features cs) → AreValues (row_values cs)
each-values [] hs h = tt
each-values (c ∷ cs) hs h =
    each-append StandsAsValue (values_in c) (row_values cs)
    (hs.0 (each-front IsFeature (features_in c) (row_features cs) h))
    (each-values cs hs.1 (each-back IsFeature (features_in c) (row_features cs) h))

gives-values : (c : Condition) → GivesValues c
gives-values = by_conditions GivesValues (record {
  and_of = λ cs hs h. subst AreValues (sym (folded-And values cs)) (each-values cs hs (subst AreFeatures (folded-And gathering cs) h));
  or_of = λ cs hs h. subst AreValues (sym (folded-Or values cs)) (each-values cs hs (subst AreFeatures (folded-Or gathering cs) h));
  not_of = λ c k h. subst AreValues (sym (folded-Not values c)) (k (subst AreFeatures (folded-Not gathering c) h));
  feature = λ f h. (let fs = subst AreFeatures (folded-Feature gathering f) h in subst AreValues (sym (folded-Feature values f)) fs.0);
  range = λ r h. subst AreValues (sym (folded-Range values r)) (bounds-values r.name r.first r.second (subst AreFeatures (folded-Range gathering r) h));
})

behind-values : (o : Option Condition) → BehindIs IsType IsFeature o → AreValues (values_behind o)
behind-values None h = tt
behind-values (Some c) h = gives-values c h

list-values : (qs : List Query) → ListIs IsType IsFeature qs → ValuesStand qs
list-values [] h = tt
list-values (q ∷ qs) h = each-append StandsAsValue (values_behind q.condition) (values_of qs) (behind-values q.condition h.0.behind) (list-values qs h.1)

-- The values of a lowered form stand.
pub lowered-stand : (qs : List Query) → ValuesStand qs → AllByRecursion ValuesStand (lowered qs)
lowered-stand qs h = each-by (ListIs IsType IsFeature) ValuesStand list-values (lowered qs) (lowered-are IsType IsFeature tt qs (list-features qs h))
