-- Each list of a lowered form has a spelling that is read as it, where the media list has one.
use Rattle.std.proofs.Common.{◌≡◌, ℕ, List, [], ◌∷◌, Bool, true, false, ◌&&◌, ◌||◌, map, flat_map, refl, sym, ap, ◌∙◌, subst, ◌++◌}
use Rattle.std.specs.Prelude.{codes, Option, Some, None}
use Rattle.std.specs.List.{AllByRecursion, list_all, list_any}
use Rattle.std.specs.Str.{chars, is_utf8}
use Rattle.std.proofs.lemmas.Bool.{and_from, false≢true}
use lib.Pointwise.{bytes_decides}
use lib.Utf8.{encode}
use Rattle.css_tokens.specs.Trees.{is_text}
use Rattle.media_spelling.specs.declared.condition.Bound.{Bound}
use Rattle.media_spelling.specs.declared.condition.Condition.{Condition}
use Rattle.media_spelling.specs.declared.condition.Condition.TheVariants.{outs-And, outs-Or, outs-Not, outs-Range}
use Rattle.media_spelling.specs.declared.condition.Feature.{Feature}
use Rattle.media_spelling.specs.declared.condition.Prefix.{Prefix}
use Rattle.media_spelling.specs.declared.condition.Prefix.TheVariants.{Plain, Only, Not}
use Rattle.media_spelling.specs.declared.condition.Query.{Query}
use Rattle.media_spelling.specs.declared.condition.Relation.{Relation}
use Rattle.media_spelling.specs.declared.condition.Relation.TheVariants.{Less, LessEqual, Greater, GreaterEqual, Equal}
use Rattle.media_spelling.specs.declared.condition.Range.{Range}
use Rattle.media_spelling.specs.ConditionFold.{folded-And, folded-Or, folded-Not, folded-Feature, folded-Range}
use Rattle.media_spelling.specs.ConditionInduction.{Each, by_conditions}
use Rattle.media_spelling.specs.Spelling.{turned}
use Rattle.prop_table.specs.OldFeatures.{is_range_feature, range_features as range_names}
use Rattle.target_check.specs.MediaTargets.{are_features, is_feature, is_target_condition, is_target_list, is_target_query, is_typed, layer_is_feature, layer_is_target}
use Rattle.media_tree.specs.Features.{is_same_way}
use Rattle.media_tree.specs.ReadableQueries.{are_readable_bounds, are_readable_queries, has_two, is_lower_name, is_readable_condition, is_readable_feature, is_readable_query, is_readable_type, is_readable_typed, is_readable_value, readable}
use Rattle.media_tree.proofs.ListsHold.{each-append, each-back, each-front}
use Rattle.media_clauses.specs.Clauses.{bound_feature, range_prefix}
use Rattle.media_clauses.specs.Lowered.{lowered, range_features}
use Rattle.media_clauses.proofs.BoolLemmas.{and-left, and-right}
use Rattle.media_clauses.proofs.FactsOfLists.{BehindIs, ListIs, QueryIs, TypeIs, features_in, gathering, lowered-are}
use Rattle.media_clauses.proofs.TargetLemmas.{lowered-target}

abbrev IsType : List ℕ → Type 0
IsType media = is_readable_type media ≡ true

abbrev IsFeature : Feature → Type 0
IsFeature f = is_readable_feature f ≡ true

abbrev AreFeatures : List Feature → Type 0
AreFeatures fs = AllByRecursion IsFeature fs

-- Names.

-- a name of these
this-or : (P : List ℕ → Type 0) (n name : List ℕ) (b more : Bool) → is_text name n ≡ b → P n → (more ≡ true → P name) → (b || more) ≡ true → P name
this-or P n name true more same p h e = subst P (sym ((bytes_decides name n).0 same)) p
this-or P n name false more other p h e = h e

one-of : (P : List ℕ → Type 0) (names : List (List ℕ)) (name : List ℕ) → AllByRecursion P names → list_any (is_text name) names ≡ true → P name
one-of P [] name h e = absurd (false≢true e)
one-of P (n ∷ names) name h e = this-or P n name (is_text name n) (list_any (is_text name) names) refl h.0 (one-of P names name h.1) e

all-type : is_readable_type (codes "all") ≡ true
unfolding is_utf8 chars encode
all-type = refl

-- the name of a range's feature behind the prefix of a bound
abbrev IsPrefixed : Relation → List ℕ → Type 0
IsPrefixed r name = is_lower_name (range_prefix r ++ name) ≡ true

each-prefixed : (r : Relation) → AllByRecursion (IsPrefixed r) range_names
unfolding is_utf8 chars encode
each-prefixed Less = (refl, (refl, (refl, (refl, (refl, (refl, (refl, (refl, (refl, (refl, tt))))))))))
each-prefixed LessEqual = (refl, (refl, (refl, (refl, (refl, (refl, (refl, (refl, (refl, (refl, tt))))))))))
each-prefixed Greater = (refl, (refl, (refl, (refl, (refl, (refl, (refl, (refl, (refl, (refl, tt))))))))))
each-prefixed GreaterEqual = (refl, (refl, (refl, (refl, (refl, (refl, (refl, (refl, (refl, (refl, tt))))))))))
each-prefixed Equal = (refl, (refl, (refl, (refl, (refl, (refl, (refl, (refl, (refl, (refl, tt))))))))))

-- Conditions that are read.

bound-readable : (name : List ℕ) (b : Bound) → is_range_feature name ≡ true → is_readable_value b.value ≡ true → IsFeature (bound_feature name b)
bound-readable name b known h =
    and_from (is_lower_name (range_prefix b.relation ++ name)) (is_readable_value b.value) (one-of (IsPrefixed b.relation) range_names name (each-prefixed b.relation) known) h

bounds-readable : (name : List ℕ) (first : Bound) (second : Option Bound) → is_range_feature name ≡ true → are_readable_bounds first second ≡ true → AreFeatures (range_features (record { name = name; first = first; second = second }))
bounds-readable name first None known h = (bound-readable name first known h, tt)
bounds-readable name first (Some second) known h =
    let more = is_readable_value second.value && is_same_way (turned first.relation) second.relation in
    let behind = and-right (is_readable_value first.value) more h in (
      bound-readable name first known (and-left (is_readable_value first.value) more h),
      (bound-readable name second known (and-left (is_readable_value second.value) (is_same_way (turned first.relation) second.relation) behind), tt),
    )

range-readable : (r : Range) → (is_range_feature r.name && (is_lower_name r.name && are_readable_bounds r.first r.second)) ≡ true → AreFeatures (range_features r)
range-readable r h =
    let more = is_lower_name r.name && are_readable_bounds r.first r.second in
    bounds-readable r.name r.first r.second (and-left (is_range_feature r.name) more h)
    (and-right (is_lower_name r.name) (are_readable_bounds r.first r.second) (and-right (is_range_feature r.name) more h))

abbrev GivesFeatures : Condition → Type 0
GivesFeatures c = is_readable_condition c ≡ true → AreFeatures (features_in c)

each-gives : (cs : List Condition) → Each GivesFeatures cs → list_all (λ b. b) (map is_readable_condition cs) ≡ true → AreFeatures (flat_map (λ f. f) (map features_in cs))
each-gives [] hs e = tt
each-gives (c ∷ cs) hs e =
    let more = list_all (λ (b : Bool). b) (map is_readable_condition cs) in
    each-append IsFeature (features_in c) (flat_map (λ f. f) (map features_in cs))
    (hs.0 (and-left (is_readable_condition c) more e))
    (each-gives cs hs.1 (and-right (is_readable_condition c) more e))

row-gives : (cs : List Condition) → Each GivesFeatures cs → (has_two (map is_readable_condition cs) && list_all (λ b. b) (map is_readable_condition cs)) ≡ true → AreFeatures (flat_map (λ f. f) (map features_in cs))
row-gives cs hs e = each-gives cs hs (and-right (has_two (map is_readable_condition cs)) (list_all (λ b. b) (map is_readable_condition cs)) e)

gives-features : (c : Condition) → GivesFeatures c
gives-features = by_conditions GivesFeatures (record {
  and_of = λ cs hs e. subst AreFeatures (sym (folded-And gathering cs)) (row-gives cs hs (sym (folded-And readable cs) ∙ e));
  or_of = λ cs hs e. subst AreFeatures (sym (folded-Or gathering cs)) (row-gives cs hs (sym (folded-Or readable cs) ∙ e));
  not_of = λ c h e. subst AreFeatures (sym (folded-Not gathering c)) (h (sym (folded-Not readable c) ∙ e));
  feature = λ f e. subst AreFeatures (sym (folded-Feature gathering f)) (sym (folded-Feature readable f) ∙ e, tt);
  range = λ r e. subst AreFeatures (sym (folded-Range gathering r)) (range-readable r (sym (folded-Range readable r) ∙ e));
})

abbrev IsRead : Query → Type 0
IsRead q = QueryIs IsType IsFeature q

typed-read : (p : Prefix) (media : Option (List ℕ)) (c : Option Condition) → is_readable_typed p media c ≡ true → IsRead (record { prefix = p; media = media; condition = c })
typed-read p (Some media) None e = record { type = and-left (is_readable_type media) true e; behind = tt }
typed-read p (Some media) (Some c) e = record { type = and-left (is_readable_type media) (is_readable_condition c) e; behind = gives-features c (and-right (is_readable_type media) (is_readable_condition c) e) }
typed-read Plain None (Some c) e = record { type = tt; behind = gives-features c e }
typed-read Only None (Some c) e = absurd (false≢true e)
typed-read Not None (Some c) e = absurd (false≢true e)
typed-read Plain None None e = absurd (false≢true e)
typed-read Only None None e = absurd (false≢true e)
typed-read Not None None e = absurd (false≢true e)

list-read : (qs : List Query) → are_readable_queries qs ≡ true → ListIs IsType IsFeature qs
list-read [] e = tt
list-read (q ∷ qs) e = (typed-read q.prefix q.media q.condition (and-left (is_readable_query q) (are_readable_queries qs) e), list-read qs (and-right (is_readable_query q) (are_readable_queries qs) e))

-- Target lists of parts that are read.

abbrev ReadFeature : Condition → Type 0
ReadFeature c = is_feature c ≡ true → AreFeatures (features_in c) → is_readable_condition c ≡ true

feature-read : (c : Condition) → ReadFeature c
feature-read = by_conditions ReadFeature (record {
  and_of = λ cs hs e h. absurd (false≢true (sym (ap layer_is_feature (outs-And cs)) ∙ e));
  or_of = λ cs hs e h. absurd (false≢true (sym (ap layer_is_feature (outs-Or cs)) ∙ e));
  not_of = λ c k e h. absurd (false≢true (sym (ap layer_is_feature (outs-Not c)) ∙ e));
  feature = λ f e h. (let fs = subst AreFeatures (folded-Feature gathering f) h in folded-Feature readable f ∙ fs.0);
  range = λ r e h. absurd (false≢true (sym (ap layer_is_feature (outs-Range r)) ∙ e));
})

each-read : (cs : List Condition) → list_all is_feature cs ≡ true → AreFeatures (flat_map (λ f. f) (map features_in cs)) → list_all (λ b. b) (map is_readable_condition cs) ≡ true
each-read [] e h = refl
each-read (c ∷ cs) e h =
    let more = flat_map (λ (f : List Feature). f) (map features_in cs) in
    and_from (is_readable_condition c) (list_all (λ b. b) (map is_readable_condition cs))
    (feature-read c (and-left (is_feature c) (list_all is_feature cs) e) (each-front IsFeature (features_in c) more h))
    (each-read cs (and-right (is_feature c) (list_all is_feature cs) e) (each-back IsFeature (features_in c) more h))

row-read : (cs : List Condition) → are_features cs ≡ true → AreFeatures (flat_map (λ f. f) (map features_in cs)) → (has_two (map is_readable_condition cs) && list_all (λ b. b) (map is_readable_condition cs)) ≡ true
row-read [] e h = absurd (false≢true e)
row-read (c ∷ []) e h = absurd (false≢true e)
row-read (c ∷ d ∷ cs) e h = each-read (c ∷ d ∷ cs) e h

abbrev ReadTarget : Condition → Type 0
ReadTarget c = is_target_condition c ≡ true → AreFeatures (features_in c) → is_readable_condition c ≡ true

target-read : (c : Condition) → ReadTarget c
target-read = by_conditions ReadTarget (record {
  and_of = λ cs hs e h. folded-And readable cs ∙ row-read cs (sym (ap layer_is_target (outs-And cs)) ∙ e) (subst AreFeatures (folded-And gathering cs) h);
  or_of = λ cs hs e h. absurd (false≢true (sym (ap layer_is_target (outs-Or cs)) ∙ e));
  not_of = λ c k e h. absurd (false≢true (sym (ap layer_is_target (outs-Not c)) ∙ e));
  feature = λ f e h. (let fs = subst AreFeatures (folded-Feature gathering f) h in folded-Feature readable f ∙ fs.0);
  range = λ r e h. absurd (false≢true (sym (ap layer_is_target (outs-Range r)) ∙ e));
})

typed-target : (p : Prefix) (media : Option (List ℕ)) (c : Option Condition) → is_typed is_target_condition p media c ≡ true → TypeIs IsType IsFeature media → BehindIs IsType IsFeature c → is_readable_typed p media c ≡ true
typed-target p (Some media) None e h k = and_from (is_readable_type media) true h refl
typed-target p (Some media) (Some c) e h k = and_from (is_readable_type media) (is_readable_condition c) h (target-read c e k)
typed-target Plain None (Some c) e h k = target-read c e k
typed-target Only None (Some c) e h k = absurd (false≢true e)
typed-target Not None (Some c) e h k = absurd (false≢true e)
typed-target Plain None None e h k = absurd (false≢true e)
typed-target Only None None e h k = absurd (false≢true e)
typed-target Not None None e h k = absurd (false≢true e)

queries-target : (qs : List Query) → list_all is_target_query qs ≡ true → ListIs IsType IsFeature qs → are_readable_queries qs ≡ true
queries-target [] e h = refl
queries-target (q ∷ qs) e h =
    and_from (is_readable_query q) (are_readable_queries qs)
    (typed-target q.prefix q.media q.condition (and-left (is_target_query q) (list_all is_target_query qs) e) h.0.type h.0.behind)
    (queries-target qs (and-right (is_target_query q) (list_all is_target_query qs) e) h.1)

list-target : (qs : List Query) → is_target_list qs ≡ true → ListIs IsType IsFeature qs → are_readable_queries qs ≡ true
list-target [] e h = absurd (false≢true e)
list-target (q ∷ qs) e h = queries-target (q ∷ qs) e h

lists-target : (lists : List (List Query)) → list_all is_target_list lists ≡ true → AllByRecursion (ListIs IsType IsFeature) lists → list_all are_readable_queries lists ≡ true
lists-target [] e h = refl
lists-target (qs ∷ lists) e h =
    and_from (are_readable_queries qs) (list_all are_readable_queries lists)
    (list-target qs (and-left (is_target_list qs) (list_all is_target_list lists) e) h.0)
    (lists-target lists (and-right (is_target_list qs) (list_all is_target_list lists) e) h.1)

-- The lists of the lowered form of what is read are read.
pub lowered-readable : (qs : List Query) → are_readable_queries qs ≡ true → list_all are_readable_queries (lowered qs) ≡ true
lowered-readable qs e = lists-target (lowered qs) (lowered-target qs) (lowered-are IsType IsFeature all-type qs (list-read qs e))
