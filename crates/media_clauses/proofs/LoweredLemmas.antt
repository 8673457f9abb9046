-- The lists of a lowered form hold where the list does.
use Rattle.std.proofs.Common.{◌≡◌, ℕ, List, [], ◌∷◌, ◌++◌, Bool, true, false, not, ◌&&◌, ◌||◌, map, flat_map, refl, ◌∙◌, ap, sym}
use Rattle.std.specs.Prelude.{codes, Option, Some, None, if◌then◌else◌}
use Rattle.std.specs.List.{list_all, list_any}
use Rattle.std.specs.Option.{option_map_or}
use Rattle.std.proofs.lemmas.Bool.{false≢true}
use Rattle.std.proofs.lemmas.List.Folds.{list_all-append}
use Rattle.css_tokens.specs.Trees.{is_text}
use Rattle.cascade_spec.specs.declared.environment.Environment.{Environment}
use Rattle.cascade_spec.specs.Truth.{bound_holds, condition_holds, condition_truth, feature_holds, prefixed, queries_hold, query_holds, range_holds, type_holds}
use Rattle.media_spelling.specs.declared.condition.Bound.{Bound}
use Rattle.media_spelling.specs.declared.condition.Condition.{Condition, out-Condition}
use Rattle.media_spelling.specs.declared.condition.Condition as condition
use Rattle.media_spelling.specs.declared.condition.Condition.TheOpen as open_condition
use Rattle.media_spelling.specs.declared.condition.Condition.TheVariants.{outs-And, outs-Or, outs-Not, outs-Feature, outs-Range}
use Rattle.media_spelling.specs.declared.condition.Feature.{Feature}
use Rattle.media_spelling.specs.declared.condition.Range.{Range}
use Rattle.media_spelling.specs.declared.condition.Prefix.{Prefix}
use Rattle.media_spelling.specs.declared.condition.Prefix.TheVariants.{Plain, Only, Not}
use Rattle.media_spelling.specs.declared.condition.Query.{Query}
use Rattle.media_spelling.specs.ConditionFold.{folded-Range}
use Rattle.media_spelling.specs.ConditionInduction.{by_conditions}
use Rattle.prop_table.specs.OldFeatures.{is_range_feature}
use Rattle.media_clauses.specs.declared.clause.Clause.{Clause}
use Rattle.media_clauses.specs.declared.clause.Fact.{Fact}
use Rattle.media_clauses.specs.declared.clause.Fact.TheVariants as facts
use Rattle.media_clauses.specs.declared.clause.Literal.{Literal}
use Rattle.media_clauses.specs.Clauses.{bound_feature, bounds, clauses, is_strict, option_sides}
use Rattle.media_clauses.specs.Holding.{clause_holds, clauses_hold, fact_holds, literal_holds, signed}
use Rattle.media_clauses.specs.KnownRanges.{has_known_ranges, have_known_ranges, known_ranges}
use Rattle.media_clauses.specs.Lowered.{all_of, by_clauses, by_parts, clause_queries, fact_features, fact_query, features_of, first_list, further_lists, is_closed_range, is_plain, is_row, joined_features, layer_features, layer_is_plain, layer_is_row, layer_row, literal_queries, literal_query, literals_features, lone_features, lowered, named_type, plain_query, query_parts, range_features}
use Rattle.target_check.specs.MediaTargets.{is_typed}
use Rattle.media_clauses.proofs.BoolLemmas.{all-map, all-same, and-assoc, and-left, and-right, and-true, any-map, any-same, both, either, or-false}
use Rattle.media_clauses.proofs.FactLemmas.{bound-literal}
use Rattle.media_clauses.proofs.SideLemmas.{holds-And, holds-Feature, known-And, list-clauses, option-holds}

-- another test between two
and-swap : (a b c : Bool) → (a && (b && c)) ≡ (b && (a && c))
and-swap true b c = refl
and-swap false true c = refl
and-swap false false c = refl

module _ (env : Environment) where
  -- Clauses as queries.

  literal-holds : (wanted : Bool) (fact : Fact) → query_holds env (fact_query wanted fact) ≡ signed wanted (fact_holds env fact)
  literal-holds true (facts.Media media) = and-true (type_holds env media)
  literal-holds false (facts.Media media) = ap not (and-true (type_holds env media))
  literal-holds true (facts.Feature f) = holds-Feature env f
  literal-holds false (facts.Feature f) = ap not (holds-Feature env f)

  literals-hold : (ls : List Literal) → queries_hold env (literal_queries ls) ≡ list_any (literal_holds env) ls
  literals-hold [] = refl
  literals-hold (l ∷ ls) =
      any-map (query_holds env) literal_query (l ∷ ls)
      ∙ any-same (λ m. query_holds env (literal_query m)) (literal_holds env) (λ m. literal-holds m.positive m.fact) (l ∷ ls)

  clause-list : (c : Clause) → queries_hold env (clause_queries c) ≡ clause_holds env c
  clause-list c = literals-hold c.literals

  clause-lists : (cs : List Clause) → list_all (queries_hold env) (map clause_queries cs) ≡ clauses_hold env cs
  clause-lists cs = all-map (queries_hold env) clause_queries cs ∙ all-same (λ c. queries_hold env (clause_queries c)) (clause_holds env) clause-list cs

  -- Features joined by `and`.

  all-of : (cs : List Condition) → option_map_or (condition_holds env) (all_of cs) true ≡ list_all (condition_holds env) cs
  all-of [] = refl
  all-of (c ∷ []) = sym (and-true (condition_holds env c))
  all-of (c ∷ d ∷ cs) = holds-And env (c ∷ d ∷ cs)

  joined-hold : (fs : List Feature) → option_map_or (condition_holds env) (joined_features fs) true ≡ list_all (feature_holds env) fs
  joined-hold fs =
      all-of (map condition.Feature fs)
      ∙ all-map (condition_holds env) condition.Feature fs
      ∙ all-same (λ f. condition_holds env (condition.Feature f)) (feature_holds env) (holds-Feature env) fs

  -- Parts.

  first-list : (media : Option (List ℕ)) (c : Option Condition)
      → list_all (queries_hold env) (first_list media c) ≡ (option_map_or (type_holds env) media true && option_map_or (condition_holds env) c true)
  first-list None None = refl
  first-list None (Some c) = and-true (condition_holds env c || false) ∙ or-false (condition_holds env c)
  first-list (Some media) None = and-true ((type_holds env media && true) || false) ∙ or-false (type_holds env media && true)
  first-list (Some media) (Some c) = and-true ((type_holds env media && condition_holds env c) || false) ∙ or-false (type_holds env media && condition_holds env c)

  named-or : (media : List ℕ) (all : Bool) → is_text media (codes "all") ≡ all
      → option_map_or (type_holds env) (if all then None else Some media) true ≡ type_holds env media
  named-or media true e = sym (ap (λ (b : Bool). b || is_text media env.media) e)
  named-or media false e = refl

  named-holds : (media : Option (List ℕ)) → option_map_or (type_holds env) (named_type media) true ≡ option_map_or (type_holds env) media true
  named-holds None = refl
  named-holds (Some media) = named-or media (is_text media (codes "all")) refl

  -- a clause and its lone feature say the same
  fact-feature : (wanted : Bool) (fact : Fact) (f : Feature) (fs : List Feature) → fact_features wanted fact ≡ f ∷ fs
      → (signed wanted (fact_holds env fact) ≡ feature_holds env f) × (fs ≡ [])
  fact-feature true (facts.Feature g) f fs e = let same : g ≡ f = cc in (ap (feature_holds env) same, cc)
  fact-feature true (facts.Media media) f fs e = cc
  fact-feature false (facts.Feature g) f fs e = cc
  fact-feature false (facts.Media media) f fs e = cc

  lone-feature : (ls : List Literal) (f : Feature) (fs : List Feature) → literals_features ls ≡ f ∷ fs
      → (list_any (literal_holds env) ls ≡ feature_holds env f) × (fs ≡ [])
  lone-feature [] f fs e = cc
  lone-feature (l ∷ []) f fs e = let one = fact-feature l.positive l.fact f fs e in (or-false (literal_holds env l) ∙ one.0, one.1)
  lone-feature (l ∷ m ∷ ls) f fs e = cc

  -- the lone features and the other clauses say what all clauses say
  parts-step : (c : Clause) (fs : List Feature) → lone_features c ≡ fs → (front : List Feature) (rest : List (List Query)) (others : Bool)
      → (list_all (feature_holds env) front && list_all (queries_hold env) rest) ≡ others
      → (list_all (feature_holds env) (fs ++ front) && list_all (queries_hold env) (further_lists c fs ++ rest)) ≡ (clause_holds env c && others)
  parts-step c [] e front rest others h =
      and-swap (list_all (feature_holds env) front) (queries_hold env (clause_queries c)) (list_all (queries_hold env) rest)
      ∙ both (queries_hold env (clause_queries c)) (list_all (feature_holds env) front && list_all (queries_hold env) rest) (clause_holds env c) others (clause-list c) h
  parts-step c (f ∷ fs) e front rest others h =
      let lone = lone-feature c.literals f fs e in
      ap (λ (gs : List Feature). list_all (feature_holds env) (f ∷ (gs ++ front)) && list_all (queries_hold env) rest) lone.1
      ∙ and-assoc (feature_holds env f) (list_all (feature_holds env) front) (list_all (queries_hold env) rest)
      ∙ both (feature_holds env f) (list_all (feature_holds env) front && list_all (queries_hold env) rest) (clause_holds env c) others (sym lone.0) h

  parts : (cs : List Clause)
      → (list_all (feature_holds env) (flat_map lone_features cs) && list_all (queries_hold env) (flat_map (λ c. further_lists c (lone_features c)) cs)) ≡ clauses_hold env cs
  parts [] = refl
  parts (c ∷ cs) = parts-step c (lone_features c) refl (flat_map lone_features cs) (flat_map (λ d. further_lists d (lone_features d)) cs) (clauses_hold env cs) (parts cs)

  by-parts : (media : Option (List ℕ)) (c : Option Condition) → option_map_or has_known_ranges c true ≡ true
      → list_all (queries_hold env) (by_parts media (option_sides c).pos) ≡ (option_map_or (type_holds env) media true && option_map_or (condition_holds env) c true)
  by-parts media c known =
      let cs = (option_sides c).pos in
      let first = first_list (named_type media) (joined_features (flat_map lone_features cs)) in
      let rest = flat_map (λ (d : Clause). further_lists d (lone_features d)) cs in
      list_all-append (queries_hold env) first rest
      ∙ ap (λ (b : Bool). b && list_all (queries_hold env) rest)
      (first-list (named_type media) (joined_features (flat_map lone_features cs))
      ∙ both (option_map_or (type_holds env) (named_type media) true) (option_map_or (condition_holds env) (joined_features (flat_map lone_features cs)) true) (option_map_or (type_holds env) media true) (list_all (feature_holds env) (flat_map lone_features cs)) (named-holds media) (joined-hold (flat_map lone_features cs)))
      ∙ and-assoc (option_map_or (type_holds env) media true) (list_all (feature_holds env) (flat_map lone_features cs)) (list_all (queries_hold env) rest)
      ∙ ap (λ (b : Bool). option_map_or (type_holds env) media true && b) (parts cs ∙ option-holds env c known true)

  query-parts : (p : Prefix) (media : Option (List ℕ)) (c : Option Condition) → option_map_or has_known_ranges c true ≡ true
      → list_all (queries_hold env) (query_parts p (record { prefix = p; media = media; condition = c })) ≡ query_holds env (record { prefix = p; media = media; condition = c })
  query-parts Plain media c known = by-parts media c known
  query-parts Only media c known = by-parts media c known
  query-parts Not media c known =
      clause-lists (clauses (record { prefix = Not; media = media; condition = c } ∷ []))
      ∙ list-clauses env (record { prefix = Not; media = media; condition = c } ∷ []) (and-true (option_map_or has_known_ranges c true) ∙ known)
      ∙ or-false (query_holds env (record { prefix = Not; media = media; condition = c }))

  by-clauses : (q : Query) (qs : List Query) → have_known_ranges (q ∷ qs) ≡ true → list_all (queries_hold env) (by_clauses (q ∷ qs)) ≡ queries_hold env (q ∷ qs)
  by-clauses q [] known =
      query-parts q.prefix q.media q.condition (and-left (option_map_or has_known_ranges q.condition true) true known)
      ∙ sym (or-false (query_holds env q))
  by-clauses q (r ∷ qs) known = clause-lists (clauses (q ∷ r ∷ qs)) ∙ list-clauses env (q ∷ r ∷ qs) known

  -- Plain queries.

  -- a bound that leaves nothing out, and the feature that tells it
  closed-bound : (name : List ℕ) (b : Bound) → is_range_feature name ≡ true → not (is_strict b.relation) ≡ true
      → feature_holds env (bound_feature name b) ≡ bound_holds env name b
  closed-bound name b known closed =
      ap (λ (wanted : Bool). signed wanted (feature_holds env (bound_feature name b))) (sym closed)
      ∙ bound-literal env name b.value b.relation known

  closed-bounds : (name : List ℕ) (first : Bound) (second : Option Bound) → is_range_feature name ≡ true
      → list_all (λ (b : Bound). not (is_strict b.relation)) (bounds first second) ≡ true
      → list_all (feature_holds env) (map (bound_feature name) (bounds first second)) ≡ range_holds env (record { name = name; first = first; second = second })
  closed-bounds name first None known closed =
      ap (λ (b : Bool). b && true) (closed-bound name first known (and-left (not (is_strict first.relation)) true closed))
  closed-bounds name first (Some second) known closed =
      both (feature_holds env (bound_feature name first)) (feature_holds env (bound_feature name second) && true) (bound_holds env name first) (bound_holds env name second)
      (closed-bound name first known (and-left (not (is_strict first.relation)) (not (is_strict second.relation) && true) closed))
      (and-true (feature_holds env (bound_feature name second))
      ∙ closed-bound name second known (and-left (not (is_strict second.relation)) true (and-right (not (is_strict first.relation)) (not (is_strict second.relation) && true) closed)))

  -- a feature or a range, and what tells it
  abbrev Part : Condition → Type 0
  Part c = layer_is_plain (out-Condition c) ≡ true → has_known_ranges c ≡ true → list_all (feature_holds env) (layer_features (out-Condition c)) ≡ condition_holds env c

  part-feature : (f : Feature) → list_all (feature_holds env) (layer_features (out-Condition (condition.Feature f))) ≡ condition_holds env (condition.Feature f)
  part-feature f =
      ap (λ v. list_all (feature_holds env) (layer_features v)) (outs-Feature f)
      ∙ and-true (feature_holds env f)
      ∙ sym (holds-Feature env f)

  part-range : (r : Range) → is_closed_range r ≡ true → has_known_ranges (condition.Range r) ≡ true
      → list_all (feature_holds env) (range_features r) ≡ condition_holds env (condition.Range r)
  part-range r closed known =
      closed-bounds r.name r.first r.second (sym (folded-Range known_ranges r) ∙ known) closed
      ∙ sym (folded-Range (condition_truth env) r)

  part-holds : (c : Condition) → Part c
  part-holds = by_conditions Part (record {
    and_of = λ cs hs e known. absurd (false≢true (sym (ap layer_is_plain (outs-And cs)) ∙ e));
    or_of = λ cs hs e known. absurd (false≢true (sym (ap layer_is_plain (outs-Or cs)) ∙ e));
    not_of = λ c h e known. absurd (false≢true (sym (ap layer_is_plain (outs-Not c)) ∙ e));
    feature = λ f e known. part-feature f;
    range = λ r e known. ap (λ v. list_all (feature_holds env) (layer_features v)) (outs-Range r) ∙ part-range r (sym (ap layer_is_plain (outs-Range r)) ∙ e) known;
  })

  each-part : (cs : List Condition) → list_all (λ c. layer_is_plain (out-Condition c)) cs ≡ true → list_all has_known_ranges cs ≡ true
      → list_all (feature_holds env) (flat_map (λ c. layer_features (out-Condition c)) cs) ≡ list_all (condition_holds env) cs
  each-part [] e known = refl
  each-part (c ∷ cs) e known =
      list_all-append (feature_holds env) (layer_features (out-Condition c)) (flat_map (λ d. layer_features (out-Condition d)) cs)
      ∙ both (list_all (feature_holds env) (layer_features (out-Condition c))) (list_all (feature_holds env) (flat_map (λ d. layer_features (out-Condition d)) cs)) (condition_holds env c) (list_all (condition_holds env) cs)
      (part-holds c (and-left (layer_is_plain (out-Condition c)) (list_all (λ d. layer_is_plain (out-Condition d)) cs) e) (and-left (has_known_ranges c) (list_all has_known_ranges cs) known))
      (each-part cs (and-right (layer_is_plain (out-Condition c)) (list_all (λ d. layer_is_plain (out-Condition d)) cs) e) (and-right (has_known_ranges c) (list_all has_known_ranges cs) known))

  -- the members of a row are plain
  row-parts : (cs : List Condition) → layer_is_row (open_condition.And cs) ≡ true → list_all (λ c. layer_is_plain (out-Condition c)) cs ≡ true
  row-parts [] e = refl
  row-parts (c ∷ cs) e = e

  abbrev Row : Condition → Type 0
  Row c = is_row c ≡ true → has_known_ranges c ≡ true → list_all (feature_holds env) (layer_row (out-Condition c)) ≡ condition_holds env c

  row-holds : (c : Condition) → Row c
  row-holds = by_conditions Row (record {
    and_of = λ cs hs e known.
        ap (λ v. list_all (feature_holds env) (layer_row v)) (outs-And cs)
        ∙ each-part cs (row-parts cs (sym (ap layer_is_row (outs-And cs)) ∙ e)) (sym (known-And cs) ∙ known)
        ∙ sym (holds-And env cs);
    or_of = λ cs hs e known. absurd (false≢true (sym (ap layer_is_row (outs-Or cs)) ∙ e));
    not_of = λ c h e known. absurd (false≢true (sym (ap layer_is_row (outs-Not c)) ∙ e));
    feature = λ f e known.
        ap (λ v. list_all (feature_holds env) (layer_row v)) (outs-Feature f) ∙ and-true (feature_holds env f) ∙ sym (holds-Feature env f);
    range = λ r e known. ap (λ v. list_all (feature_holds env) (layer_row v)) (outs-Range r) ∙ part-range r (sym (ap layer_is_row (outs-Range r)) ∙ e) known;
  })

  -- a plain query, and what tells it
  told-typed : (p : Prefix) (media : Option (List ℕ)) (c : Option Condition) → is_typed is_row p media c ≡ true → option_map_or has_known_ranges c true ≡ true
      → option_map_or (condition_holds env) (joined_features (features_of c)) true ≡ option_map_or (condition_holds env) c true
  told-typed p (Some media) None e known = refl
  told-typed p (Some media) (Some c) e known = joined-hold (features_of (Some c)) ∙ row-holds c e known
  told-typed Plain None (Some c) e known = joined-hold (features_of (Some c)) ∙ row-holds c e known
  told-typed Only None (Some c) e known = absurd (false≢true e)
  told-typed Not None (Some c) e known = absurd (false≢true e)
  told-typed Plain None None e known = refl
  told-typed Only None None e known = refl
  told-typed Not None None e known = refl

  plain-query : (q : Query) → is_plain q ≡ true → option_map_or has_known_ranges q.condition true ≡ true → query_holds env (plain_query q) ≡ query_holds env q
  plain-query q e known = ap (λ (b : Bool). prefixed q.prefix (option_map_or (type_holds env) q.media true && b)) (told-typed q.prefix q.media q.condition e known)

  plain-list : (qs : List Query) → list_all is_plain qs ≡ true → have_known_ranges qs ≡ true → list_any (query_holds env) (map plain_query qs) ≡ list_any (query_holds env) qs
  plain-list [] e known = refl
  plain-list (q ∷ qs) e known =
      either (query_holds env (plain_query q)) (list_any (query_holds env) (map plain_query qs)) (query_holds env q) (list_any (query_holds env) qs)
      (plain-query q (and-left (is_plain q) (list_all is_plain qs) e) (and-left (option_map_or has_known_ranges q.condition true) (have_known_ranges qs) known))
      (plain-list qs (and-right (is_plain q) (list_all is_plain qs) e) (and-right (option_map_or has_known_ranges q.condition true) (have_known_ranges qs) known))

  -- Lists.

  lowered-or : (q : Query) (qs : List Query) (plain : Bool) → list_all is_plain (q ∷ qs) ≡ plain → have_known_ranges (q ∷ qs) ≡ true
      → list_all (queries_hold env) (if plain then map plain_query (q ∷ qs) ∷ [] else by_clauses (q ∷ qs)) ≡ queries_hold env (q ∷ qs)
  lowered-or q qs true e known = and-true (queries_hold env (map plain_query (q ∷ qs))) ∙ plain-list (q ∷ qs) e known
  lowered-or q qs false e known = by-clauses q qs known

  pub lowered-holds : (qs : List Query) → have_known_ranges qs ≡ true → list_all (queries_hold env) (lowered qs) ≡ queries_hold env qs
  lowered-holds [] known = refl
  lowered-holds (q ∷ qs) known = lowered-or q qs (list_all is_plain (q ∷ qs)) refl known
