-- How a media list is told by media lists of a target sheet, one inside the other, the first outermost (this project's own; Media
-- Queries 4, sections 2.4.4 and 2.5): the list holds where each of them does.
use Rattle.std.specs.Prelude.{ℕ, List, [], ◌∷◌, ◌++◌, map, flat_map, Bool, true, false, not, codes, Option, Some, None, if◌then◌else◌}
use Rattle.std.specs.List.{list_all}
use Rattle.css_tokens.specs.Trees.{is_text}
use Rattle.media_spelling.specs.declared.condition.Bound.{Bound}
use Rattle.media_spelling.specs.declared.condition.Condition.{Condition, out-Condition}
use Rattle.media_spelling.specs.declared.condition.Condition as condition
use Rattle.media_spelling.specs.declared.condition.Condition.TheOpen.{And, Feature, Range}
use Rattle.media_spelling.specs.declared.condition.Feature.{Feature as FeatureRecord}
use Rattle.media_spelling.specs.declared.condition.Prefix.{Prefix}
use Rattle.media_spelling.specs.declared.condition.Prefix.TheVariants as prefixes
use Rattle.media_spelling.specs.declared.condition.Query.{Query}
use Rattle.media_spelling.specs.declared.condition.Range.{Range as RangeRecord}
use Rattle.media_clauses.specs.declared.clause.Clause.{Clause}
use Rattle.media_clauses.specs.declared.clause.Fact.{Fact}
use Rattle.media_clauses.specs.declared.clause.Fact.TheVariants as facts
use Rattle.media_clauses.specs.declared.clause.Literal.{Literal}
use Rattle.media_clauses.specs.Clauses.{bound_feature, bounds, clauses, is_strict, option_sides}
use Rattle.target_check.specs.MediaTargets.{Layer, is_typed}

-- Features joined by `and`.

-- these conditions joined by `and`, where there are any
abbrev pub all_of : List Condition → Option Condition
all_of [] = None
all_of (c ∷ []) = Some c
all_of (c ∷ d ∷ cs) = Some (condition.And (c ∷ d ∷ cs))

-- these features joined by `and`, where there are any
abbrev pub joined_features : List FeatureRecord → Option Condition
joined_features fs = all_of (map condition.Feature fs)

-- Plain queries.

-- no bound of a range leaves out its value
abbrev pub is_closed_range : RangeRecord → Bool
is_closed_range r = list_all (λ (b : Bound). not (is_strict b.relation)) (bounds r.first r.second)

-- the features in the plain context that a range is told by
abbrev pub range_features : RangeRecord → List FeatureRecord
range_features r = map (bound_feature r.name) (bounds r.first r.second)

-- a feature, or a range that features tell?
abbrev pub layer_is_plain : Layer → Bool
layer_is_plain (Feature f) = true
layer_is_plain (Range r) = is_closed_range r
layer_is_plain c = false

-- the features that tell it
abbrev pub layer_features : Layer → List FeatureRecord
layer_features (Feature f) = f ∷ []
layer_features (Range r) = range_features r
layer_features c = []

-- the same, or such joined by `and`
abbrev pub layer_is_row : Layer → Bool
layer_is_row (And []) = false
layer_is_row (And (c ∷ cs)) = list_all (λ d. layer_is_plain (out-Condition d)) (c ∷ cs)
layer_is_row c = layer_is_plain c

abbrev pub is_row : Condition → Bool
is_row c = layer_is_row (out-Condition c)

-- the features that tell it
abbrev pub layer_row : Layer → List FeatureRecord
layer_row (And cs) = flat_map (λ c. layer_features (out-Condition c)) cs
layer_row c = layer_features c

abbrev pub features_of : Option Condition → List FeatureRecord
features_of None = []
features_of (Some c) = layer_row (out-Condition c)

-- is it a prefix, a media type and features joined by `and`, but for ranges that features tell?
abbrev pub is_plain : Query → Bool
is_plain q = is_typed is_row q.prefix q.media q.condition

-- a plain query, its ranges told by features
abbrev pub plain_query : Query → Query
plain_query q = record { prefix = q.prefix; media = q.media; condition = joined_features (features_of q.condition) }

-- Clauses as queries.

-- the query that holds where the literal does
abbrev pub fact_query : Bool → Fact → Query
fact_query true (facts.Media media) = record { prefix = prefixes.Plain; media = Some media; condition = None }
fact_query false (facts.Media media) = record { prefix = prefixes.Not; media = Some media; condition = None }
fact_query true (facts.Feature f) = record { prefix = prefixes.Plain; media = None; condition = Some (condition.Feature f) }
fact_query false (facts.Feature f) = record { prefix = prefixes.Not; media = Some (codes "all"); condition = Some (condition.Feature f) }

abbrev pub literal_query : Literal → Query
literal_query l = fact_query l.positive l.fact

-- the queries of literals, with `not all` where there are none
abbrev pub literal_queries : List Literal → List Query
literal_queries [] = record { prefix = prefixes.Not; media = Some (codes "all"); condition = None } ∷ []
literal_queries (l ∷ ls) = map literal_query (l ∷ ls)

-- the media list that holds where the clause does
abbrev pub clause_queries : Clause → List Query
clause_queries c = literal_queries c.literals

-- One query.

-- the feature of a clause whose one literal is a feature that is to hold
abbrev pub fact_features : Bool → Fact → List FeatureRecord
fact_features true (facts.Feature f) = f ∷ []
fact_features wanted fact = []

abbrev pub literals_features : List Literal → List FeatureRecord
literals_features [] = []
literals_features (l ∷ []) = fact_features l.positive l.fact
literals_features (l ∷ m ∷ ls) = []

abbrev pub lone_features : Clause → List FeatureRecord
lone_features c = literals_features c.literals

-- the media type, but `all`
abbrev pub named_type : Option (List ℕ) → Option (List ℕ)
named_type None = None
named_type (Some media) = if is_text media (codes "all") then None else Some media

-- the media list of one query, where the query asks for something
abbrev pub first_list : Option (List ℕ) → Option Condition → List (List Query)
first_list None None = []
first_list media c = (record { prefix = prefixes.Plain; media = media; condition = c } ∷ []) ∷ []

-- the list of a clause that has no such feature
abbrev pub further_lists : Clause → List FeatureRecord → List (List Query)
further_lists c [] = clause_queries c ∷ []
further_lists c (f ∷ fs) = []

-- a media type and clauses: first the query of the type and the lone features, and then each other clause
abbrev pub by_parts : Option (List ℕ) → List Clause → List (List Query)
by_parts media cs = first_list (named_type media) (joined_features (flat_map lone_features cs)) ++ flat_map (λ c. further_lists c (lone_features c)) cs

-- one query that is not plain
abbrev pub query_parts : Prefix → Query → List (List Query)
query_parts prefixes.Not q = map clause_queries (clauses (q ∷ []))
query_parts prefix q = by_parts q.media (option_sides q.condition).pos

-- a list with a query that is not plain
abbrev pub by_clauses : List Query → List (List Query)
by_clauses (q ∷ []) = query_parts q.prefix q
by_clauses qs = map clause_queries (clauses qs)

-- The lowered form of a media list: none for the empty list, itself where it is plain, and else the lists of its clauses.
abbrev pub lowered : List Query → List (List Query)
lowered [] = []
lowered (q ∷ qs) = if list_all is_plain (q ∷ qs) then map plain_query (q ∷ qs) ∷ [] else by_clauses (q ∷ qs)
