-- Each list of a lowered form is one that a target sheet can have.
use Rattle.std.proofs.Common.{◌≡◌, ℕ, List, [], ◌∷◌, ◌++◌, Bool, true, false, ◌&&◌, map, flat_map, refl, ◌∙◌, ap, sym}
use Rattle.std.specs.Prelude.{Option, Some, None, if◌then◌else◌}
use Rattle.std.specs.List.{list_all}
use Rattle.std.proofs.lemmas.Bool.{false≢true}
use Rattle.std.proofs.lemmas.List.Folds.{list_all-append}
use Rattle.media_spelling.specs.declared.condition.Bound.{Bound}
use Rattle.media_spelling.specs.declared.condition.Condition.{Condition, out-Condition}
use Rattle.media_spelling.specs.declared.condition.Condition as condition
use Rattle.media_spelling.specs.declared.condition.Condition.TheOpen as open_condition
use Rattle.media_spelling.specs.declared.condition.Condition.TheVariants.{outs-And, outs-Or, outs-Not, outs-Feature, outs-Range}
use Rattle.media_spelling.specs.declared.condition.Feature.{Feature}
use Rattle.media_spelling.specs.declared.condition.Prefix.{Prefix}
use Rattle.media_spelling.specs.declared.condition.Prefix.TheVariants.{Plain, Only, Not}
use Rattle.media_spelling.specs.declared.condition.Query.{Query}
use Rattle.media_spelling.specs.ConditionInduction.{by_conditions}
use Rattle.media_clauses.specs.declared.clause.Clause.{Clause}
use Rattle.media_clauses.specs.declared.clause.Fact.{Fact}
use Rattle.media_clauses.specs.declared.clause.Fact.TheVariants as facts
use Rattle.media_clauses.specs.declared.clause.Literal.{Literal}
use Rattle.media_clauses.specs.Clauses.{bound_feature, bounds, clauses, option_sides}
use Rattle.media_clauses.specs.Lowered.{by_clauses, by_parts, clause_queries, fact_query, features_of, first_list, further_lists, is_plain, is_row, joined_features, layer_features, layer_is_plain, layer_is_row, layer_row, literal_queries, literal_query, lone_features, lowered, named_type, plain_query, query_parts}
use Rattle.target_check.specs.MediaTargets.{is_feature, is_target_condition, is_target_list, is_target_query, is_typed, layer_is_feature, layer_is_target}
use Rattle.media_clauses.proofs.BoolLemmas.{and-left, and-right, and-true, both}

-- Features joined by `and`.

one-feature : (f : Feature) → is_target_condition (condition.Feature f) ≡ true
one-feature f = ap layer_is_target (outs-Feature f)

each-feature : (fs : List Feature) → list_all is_feature (map condition.Feature fs) ≡ true
each-feature [] = refl
each-feature (f ∷ fs) = both (is_feature (condition.Feature f)) (list_all is_feature (map condition.Feature fs)) true true (ap layer_is_feature (outs-Feature f)) (each-feature fs)

row-features : (f g : Feature) (fs : List Feature) → is_target_condition (condition.And (map condition.Feature (f ∷ g ∷ fs))) ≡ true
row-features f g fs = ap layer_is_target (outs-And (map condition.Feature (f ∷ g ∷ fs))) ∙ each-feature (f ∷ g ∷ fs)

-- a query of a media type and of features, where there is one of them
typed-target : (p : Prefix) (media : List ℕ) (fs : List Feature) → is_typed is_target_condition p (Some media) (joined_features fs) ≡ true
typed-target p media [] = refl
typed-target p media (f ∷ []) = one-feature f
typed-target p media (f ∷ g ∷ fs) = row-features f g fs

untyped-target : (f : Feature) (fs : List Feature) → is_typed is_target_condition Plain None (joined_features (f ∷ fs)) ≡ true
untyped-target f [] = one-feature f
untyped-target f (g ∷ fs) = row-features f g fs

-- Clauses as queries.

literal-target : (wanted : Bool) (fact : Fact) → is_target_query (fact_query wanted fact) ≡ true
literal-target true (facts.Media media) = refl
literal-target false (facts.Media media) = refl
literal-target true (facts.Feature f) = one-feature f
literal-target false (facts.Feature f) = one-feature f

each-literal : (ls : List Literal) → list_all is_target_query (map literal_query ls) ≡ true
each-literal [] = refl
each-literal (l ∷ ls) = both (is_target_query (literal_query l)) (list_all is_target_query (map literal_query ls)) true true (literal-target l.positive l.fact) (each-literal ls)

literals-target : (ls : List Literal) → is_target_list (literal_queries ls) ≡ true
literals-target [] = refl
literals-target (l ∷ ls) = each-literal (l ∷ ls)

clauses-target : (cs : List Clause) → list_all is_target_list (map clause_queries cs) ≡ true
clauses-target [] = refl
clauses-target (c ∷ cs) = both (is_target_list (clause_queries c)) (list_all is_target_list (map clause_queries cs)) true true (literals-target c.literals) (clauses-target cs)

-- Parts.

first-target : (media : Option (List ℕ)) (fs : List Feature) → list_all is_target_list (first_list media (joined_features fs)) ≡ true
first-target None [] = refl
first-target None (f ∷ []) = and-true (is_typed is_target_condition Plain None (joined_features (f ∷ [])) && true) ∙ and-true (is_typed is_target_condition Plain None (joined_features (f ∷ []))) ∙ untyped-target f []
first-target None (f ∷ g ∷ fs) = and-true (is_typed is_target_condition Plain None (joined_features (f ∷ g ∷ fs)) && true) ∙ and-true (is_typed is_target_condition Plain None (joined_features (f ∷ g ∷ fs))) ∙ untyped-target f (g ∷ fs)
first-target (Some media) [] = refl
first-target (Some media) (f ∷ []) = and-true (is_target_condition (condition.Feature f) && true) ∙ and-true (is_target_condition (condition.Feature f)) ∙ one-feature f
first-target (Some media) (f ∷ g ∷ fs) =
    let c = condition.And (map condition.Feature (f ∷ g ∷ fs)) in
    and-true (is_target_condition c && true) ∙ and-true (is_target_condition c) ∙ row-features f g fs

further-target : (c : Clause) (fs : List Feature) → list_all is_target_list (further_lists c fs) ≡ true
further-target c [] = and-true (is_target_list (clause_queries c)) ∙ literals-target c.literals
further-target c (f ∷ fs) = refl

furthers-target : (cs : List Clause) → list_all is_target_list (flat_map (λ c. further_lists c (lone_features c)) cs) ≡ true
furthers-target [] = refl
furthers-target (c ∷ cs) =
    list_all-append is_target_list (further_lists c (lone_features c)) (flat_map (λ d. further_lists d (lone_features d)) cs)
    ∙ both (list_all is_target_list (further_lists c (lone_features c))) (list_all is_target_list (flat_map (λ d. further_lists d (lone_features d)) cs)) true true (further-target c (lone_features c)) (furthers-target cs)

parts-target : (media : Option (List ℕ)) (cs : List Clause) → list_all is_target_list (by_parts media cs) ≡ true
parts-target media cs =
    let first = first_list (named_type media) (joined_features (flat_map lone_features cs)) in
    let rest = flat_map (λ (c : Clause). further_lists c (lone_features c)) cs in
    list_all-append is_target_list first rest
    ∙ both (list_all is_target_list first) (list_all is_target_list rest) true true (first-target (named_type media) (flat_map lone_features cs)) (furthers-target cs)

query-target : (p : Prefix) (q : Query) → list_all is_target_list (query_parts p q) ≡ true
query-target Plain q = parts-target q.media (option_sides q.condition).pos
query-target Only q = parts-target q.media (option_sides q.condition).pos
query-target Not q = clauses-target (clauses (q ∷ []))

by-clauses-target : (q : Query) (qs : List Query) → list_all is_target_list (by_clauses (q ∷ qs)) ≡ true
by-clauses-target q [] = query-target q.prefix q
by-clauses-target q (r ∷ qs) = clauses-target (clauses (q ∷ r ∷ qs))

-- Plain queries.

-- something tells each plain part
abbrev Told : Condition → Type 0
Told c = is_row c ≡ true → (f : Feature) × (fs : List Feature) × (layer_row (out-Condition c) ≡ f ∷ fs)

abbrev ToldPart : Condition → Type 0
ToldPart c = layer_is_plain (out-Condition c) ≡ true → (f : Feature) × (fs : List Feature) × (layer_features (out-Condition c) ≡ f ∷ fs)

bounds-told : (name : List ℕ) (first : Bound) (second : Option Bound) → (fs : List Feature) × (map (bound_feature name) (bounds first second) ≡ bound_feature name first ∷ fs)
bounds-told name first None = ([], refl)
bounds-told name first (Some second) = (bound_feature name second ∷ [], refl)

part-told : (c : Condition) → ToldPart c
part-told = by_conditions ToldPart (record {
  and_of = λ cs hs e. absurd (false≢true (sym (ap layer_is_plain (outs-And cs)) ∙ e));
  or_of = λ cs hs e. absurd (false≢true (sym (ap layer_is_plain (outs-Or cs)) ∙ e));
  not_of = λ c h e. absurd (false≢true (sym (ap layer_is_plain (outs-Not c)) ∙ e));
  feature = λ f e. (f, [], ap layer_features (outs-Feature f));
  range = λ r e. let told = bounds-told r.name r.first r.second in (bound_feature r.name r.first, told.0, ap layer_features (outs-Range r) ∙ told.1);
})

list-told : (cs : List Condition) → layer_is_row (open_condition.And cs) ≡ true → (f : Feature) × (fs : List Feature) × (layer_row (open_condition.And cs) ≡ f ∷ fs)
list-told [] e = absurd (false≢true e)
list-told (c ∷ cs) e =
    let told = part-told c (and-left (layer_is_plain (out-Condition c)) (list_all (λ d. layer_is_plain (out-Condition d)) cs) e) in
    (told.0, told.1 ++ flat_map (λ (d : Condition). layer_features (out-Condition d)) cs, ap (λ (fs : List Feature). fs ++ flat_map (λ (d : Condition). layer_features (out-Condition d)) cs) told.2)

row-told : (c : Condition) → Told c
row-told = by_conditions Told (record {
  and_of = λ cs hs e. let told = list-told cs (sym (ap layer_is_row (outs-And cs)) ∙ e) in (told.0, told.1, ap layer_row (outs-And cs) ∙ told.2);
  or_of = λ cs hs e. absurd (false≢true (sym (ap layer_is_row (outs-Or cs)) ∙ e));
  not_of = λ c h e. absurd (false≢true (sym (ap layer_is_row (outs-Not c)) ∙ e));
  feature = λ f e. (f, [], ap layer_row (outs-Feature f));
  range = λ r e. let told = bounds-told r.name r.first r.second in (bound_feature r.name r.first, told.0, ap layer_row (outs-Range r) ∙ told.1);
})

plain-typed : (p : Prefix) (media : Option (List ℕ)) (c : Option Condition) → is_typed is_row p media c ≡ true → is_typed is_target_condition p media (joined_features (features_of c)) ≡ true
plain-typed p (Some media) None e = refl
plain-typed p (Some media) (Some c) e = typed-target p media (features_of (Some c))
plain-typed Plain None (Some c) e =
    let told = row-told c e in
    ap (λ (fs : List Feature). is_typed is_target_condition Plain None (joined_features fs)) told.2 ∙ untyped-target told.0 told.1
plain-typed Only None (Some c) e = absurd (false≢true e)
plain-typed Not None (Some c) e = absurd (false≢true e)
plain-typed Plain None None e = absurd (false≢true e)
plain-typed Only None None e = absurd (false≢true e)
plain-typed Not None None e = absurd (false≢true e)

plain-target : (qs : List Query) → list_all is_plain qs ≡ true → list_all is_target_query (map plain_query qs) ≡ true
plain-target [] e = refl
plain-target (q ∷ qs) e =
    both (is_target_query (plain_query q)) (list_all is_target_query (map plain_query qs)) true true
    (plain-typed q.prefix q.media q.condition (and-left (is_plain q) (list_all is_plain qs) e))
    (plain-target qs (and-right (is_plain q) (list_all is_plain qs) e))

lowered-or : (q : Query) (qs : List Query) (plain : Bool) → list_all is_plain (q ∷ qs) ≡ plain
    → list_all is_target_list (if plain then map plain_query (q ∷ qs) ∷ [] else by_clauses (q ∷ qs)) ≡ true
lowered-or q qs true e = and-true (is_target_list (map plain_query (q ∷ qs))) ∙ plain-target (q ∷ qs) e
lowered-or q qs false e = by-clauses-target q qs

pub lowered-target : (qs : List Query) → list_all is_target_list (lowered qs) ≡ true
lowered-target [] = refl
lowered-target (q ∷ qs) = lowered-or q qs (list_all is_plain (q ∷ qs)) refl
