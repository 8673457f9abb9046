-- What holds of each media type and feature of a media list holds of each in its lowered form.
use Rattle.std.proofs.Common.{ℕ, List, [], ◌∷◌, ◌++◌, Bool, true, false, not, map, flat_map, sym, ap, subst, ◌≡◌}
use Rattle.std.specs.Prelude.{codes, fold, Option, Some, None, if◌then◌else◌}
use Rattle.std.specs.List.{AllByRecursion, list_all}
use Rattle.css_tokens.specs.Trees.{is_text}
use Rattle.media_spelling.specs.declared.condition.Bound.{Bound}
use Rattle.media_spelling.specs.declared.condition.Condition.{Condition, out-Condition}
use Rattle.media_spelling.specs.declared.condition.Condition as condition
use Rattle.media_spelling.specs.declared.condition.Condition.TheVariants.{outs-And, outs-Or, outs-Not, outs-Feature, outs-Range}
use Rattle.media_spelling.specs.declared.condition.Feature.{Feature}
use Rattle.media_spelling.specs.declared.condition.Prefix.{Prefix}
use Rattle.media_spelling.specs.declared.condition.Prefix.TheVariants.{Plain, Only, Not}
use Rattle.media_spelling.specs.declared.condition.Query.{Query}
use Rattle.media_spelling.specs.declared.condition.Range.{Range}
use Rattle.media_spelling.specs.ConditionFold.{Steps, folded, folded-And, folded-Or, folded-Not, folded-Feature, folded-Range}
use Rattle.media_spelling.specs.ConditionInduction.{Each, by_conditions}
use Rattle.media_tree.proofs.ListsHold.{each-append, each-back, each-front}
use Rattle.media_clauses.specs.declared.clause.Clause.{Clause}
use Rattle.media_clauses.specs.declared.clause.Fact.{Fact}
use Rattle.media_clauses.specs.declared.clause.Fact.TheVariants as facts
use Rattle.media_clauses.specs.declared.clause.Literal.{Literal}
use Rattle.media_clauses.specs.Clauses.{alone, bound_feature, bound_literal, bounds, clauses, joined, negative, never, option_sides, positive, prefixed_clauses, product, products, query_clauses, range_literals, side, sides_of, turned, type_facts, Sides}
use Rattle.media_clauses.specs.Lowered.{by_clauses, by_parts, clause_queries, fact_features, fact_query, features_of, first_list, further_lists, is_plain, joined_features, layer_features, layer_row, literal_queries, literal_query, literals_features, lone_features, lowered, named_type, plain_query, query_parts, range_features}
use Rattle.media_clauses.proofs.SideEquations.{side-And, side-Or, side-Not, side-Feature, side-Range}

-- the features of a condition, ranges told by features
abbrev pub gathering : Steps (List Feature)
gathering = record {
  and_of = λ fs. flat_map (λ f. f) fs;
  or_of = λ fs. flat_map (λ f. f) fs;
  not_of = λ fs. fs;
  feature = λ f. f ∷ [];
  range = range_features;
}

abbrev pub features_in : Condition → List Feature
features_in = folded gathering

module _ (T : List ℕ → Type 0) (F : Feature → Type 0) where
  -- What holds.

  abbrev FactIs : Fact → Type 0
  FactIs (facts.Media media) = T media
  FactIs (facts.Feature f) = F f

  abbrev LiteralIs : Literal → Type 0
  LiteralIs l = FactIs l.fact

  abbrev ClauseIs : Clause → Type 0
  ClauseIs c = AllByRecursion LiteralIs c.literals

  abbrev AreClauses : List Clause → Type 0
  AreClauses cs = AllByRecursion ClauseIs cs

  abbrev AreFeatures : List Feature → Type 0
  AreFeatures fs = AllByRecursion F fs

  abbrev pub ConditionIs : Condition → Type 0
  ConditionIs c = AreFeatures (features_in c)

  abbrev pub TypeIs : Option (List ℕ) → Type 0
  TypeIs None = Unit {0}
  TypeIs (Some media) = T media

  abbrev pub BehindIs : Option Condition → Type 0
  BehindIs None = Unit {0}
  BehindIs (Some c) = ConditionIs c

  -- of the type and of each feature of a query
  pub record QueryIs (q : Query) : Type 0 where
    pub type : TypeIs q.media
    pub behind : BehindIs q.condition

  abbrev pub ListIs : List Query → Type 0
  ListIs qs = AllByRecursion QueryIs qs

  -- Products.

  joined-are : (p : Clause) (qs : List Clause) → ClauseIs p → AreClauses qs → AreClauses (map (joined p) qs)
  joined-are p [] h k = tt
  joined-are p (q ∷ qs) h k = (each-append LiteralIs p.literals q.literals h k.0, joined-are p qs h k.1)

  product-are : (ps qs : List Clause) → AreClauses ps → AreClauses qs → AreClauses (product ps qs)
  product-are [] qs h k = tt
  product-are (p ∷ ps) qs h k = each-append ClauseIs (map (joined p) qs) (product ps qs) (joined-are p qs h.0 k) (product-are ps qs h.1 k)

  further-are : (acc : List Clause) (lists : List (List Clause)) → AreClauses acc → AllByRecursion AreClauses lists → AreClauses (fold product acc lists)
  further-are acc [] h k = h
  further-are acc (l ∷ ls) h k = further-are (product acc l) ls (product-are acc l h k.0) k.1

  products-are : (lists : List (List Clause)) → AllByRecursion AreClauses lists → AreClauses (products lists)
  products-are lists k = further-are (never ∷ []) lists (tt, tt) k

  -- Conditions.

  abbrev SidesAre : Condition → Type 0
  SidesAre c = ConditionIs c → (wanted : Bool) → AreClauses (side wanted (sides_of c))

  each-side : (wanted : Bool) (cs : List Condition) → Each SidesAre cs → AreFeatures (flat_map (λ f. f) (map features_in cs)) → AllByRecursion AreClauses (map (λ c. side wanted (sides_of c)) cs)
  each-side wanted [] hs h = tt
  each-side wanted (c ∷ cs) hs h =
      (let more = flat_map (λ (f : List Feature). f) (map features_in cs) in (hs.0 (each-front F (features_in c) more h) wanted, each-side wanted cs hs.1 (each-back F (features_in c) more h)))

  flat-sides : (wanted : Bool) (cs : List Condition) → Each SidesAre cs → AreFeatures (flat_map (λ f. f) (map features_in cs)) → AreClauses (flat_map (λ c. side wanted (sides_of c)) cs)
  flat-sides wanted [] hs h = tt
  flat-sides wanted (c ∷ cs) hs h =
      (let more = flat_map (λ (f : List Feature). f) (map features_in cs) in
      each-append ClauseIs (side wanted (sides_of c)) (flat_map (λ d. side wanted (sides_of d)) cs)
      (hs.0 (each-front F (features_in c) more h) wanted)
      (flat-sides wanted cs hs.1 (each-back F (features_in c) more h)))

  -- both kinds of rows: those whose clauses are told one by one, and those that are multiplied
  row-sides : (told wanted : Bool) (cs : List Condition) → Each SidesAre cs → AreFeatures (flat_map (λ f. f) (map features_in cs))
      → AreClauses (if told then flat_map (λ c. side wanted (sides_of c)) cs else products (map (λ c. side wanted (sides_of c)) cs))
  row-sides true wanted cs hs h = flat-sides wanted cs hs h
  row-sides false wanted cs hs h = products-are (map (λ c. side wanted (sides_of c)) cs) (each-side wanted cs hs h)

  bounds-alone : (name : List ℕ) (bs : List Bound) → AreFeatures (map (bound_feature name) bs) → AreClauses (map alone (map (bound_literal name) bs))
  bounds-alone name [] h = tt
  bounds-alone name (b ∷ bs) h = ((h.0, tt), bounds-alone name bs h.1)

  bounds-turned : (name : List ℕ) (bs : List Bound) → AreFeatures (map (bound_feature name) bs) → AllByRecursion LiteralIs (map turned (map (bound_literal name) bs))
  bounds-turned name [] h = tt
  bounds-turned name (b ∷ bs) h = (h.0, bounds-turned name bs h.1)

  range-sides : (r : Range) (wanted : Bool) → AreFeatures (range_features r) → AreClauses (side wanted (record { pos = map alone (range_literals r); neg = record { literals = map turned (range_literals r) } ∷ [] }))
  range-sides r true h = bounds-alone r.name (bounds r.first r.second) h
  range-sides r false h = (bounds-turned r.name (bounds r.first r.second) h, tt)

  sides-are : (c : Condition) → SidesAre c
  sides-are = by_conditions SidesAre (record {
    and_of = λ cs hs h wanted. subst AreClauses (sym (side-And wanted cs)) (row-sides wanted wanted cs hs (subst AreFeatures (folded-And gathering cs) h));
    or_of = λ cs hs h wanted. subst AreClauses (sym (side-Or wanted cs)) (row-sides (not wanted) wanted cs hs (subst AreFeatures (folded-Or gathering cs) h));
    not_of = λ c k h wanted. subst AreClauses (sym (side-Not wanted c)) (k (subst AreFeatures (folded-Not gathering c) h) (not wanted));
    feature = λ f h wanted. (let fs = subst AreFeatures (folded-Feature gathering f) h in subst AreClauses (sym (side-Feature wanted f)) ((fs.0, tt), tt));
    range = λ r h wanted. subst AreClauses (sym (side-Range wanted r)) (range-sides r wanted (subst AreFeatures (folded-Range gathering r) h));
  })

  -- Clauses of queries.

  record SidesHold (s : Sides) : Type 0 where
    pos : AreClauses s.pos
    neg : AreClauses s.neg

  option-sides : (o : Option Condition) → BehindIs o → SidesHold (option_sides o)
  option-sides None h = record { pos = tt; neg = (tt, tt) }
  option-sides (Some c) h = record { pos = sides-are c h true; neg = sides-are c h false }

  named-facts : (b : Bool) (media : List ℕ) → T media → AllByRecursion FactIs (if b then [] else facts.Media media ∷ [])
  named-facts true media h = tt
  named-facts false media h = (h, tt)

  type-facts : (media : Option (List ℕ)) → TypeIs media → AllByRecursion FactIs (type_facts media)
  type-facts None h = tt
  type-facts (Some media) h = named-facts (is_text media (codes "all")) media h

  facts-alone : (fs : List Fact) → AllByRecursion FactIs fs → AreClauses (map (λ t. alone (positive t)) fs)
  facts-alone [] h = tt
  facts-alone (f ∷ fs) h = ((h.0, tt), facts-alone fs h.1)

  facts-turned : (fs : List Fact) → AllByRecursion FactIs fs → AllByRecursion LiteralIs (map negative fs)
  facts-turned [] h = tt
  facts-turned (f ∷ fs) h = (h.0, facts-turned fs h.1)

  typed-clauses : (fs : List Fact) (s : Sides) → AllByRecursion FactIs fs → SidesHold s → AreClauses (map (λ t. alone (positive t)) fs ++ s.pos)
  typed-clauses fs s h k = each-append ClauseIs (map (λ (t : Fact). alone (positive t)) fs) s.pos (facts-alone fs h) k.pos

  prefixed-are : (p : Prefix) (fs : List Fact) (s : Sides) → AllByRecursion FactIs fs → SidesHold s → AreClauses (prefixed_clauses p fs s)
  prefixed-are Plain fs s h k = typed-clauses fs s h k
  prefixed-are Only fs s h k = typed-clauses fs s h k
  prefixed-are Not fs s h k = product-are (record { literals = map negative fs } ∷ []) s.neg (facts-turned fs h, tt) k.neg

  each-query : (qs : List Query) → ListIs qs → AllByRecursion AreClauses (map query_clauses qs)
  each-query [] h = tt
  each-query (q ∷ qs) h = (prefixed-are q.prefix (type_facts q.media) (option_sides q.condition) (type-facts q.media h.0.type) (option-sides q.condition h.0.behind), each-query qs h.1)

  clauses-are : (qs : List Query) → ListIs qs → AreClauses (clauses qs)
  clauses-are [] h = tt
  clauses-are (q ∷ qs) h = products-are (map query_clauses (q ∷ qs)) (each-query (q ∷ qs) h)

  -- Features joined by `and`.

  feature-is : (f : Feature) → F f → ConditionIs (condition.Feature f)
  feature-is f h = subst AreFeatures (sym (folded-Feature gathering f)) (h, tt)

  each-feature : (fs : List Feature) → AreFeatures fs → AreFeatures (flat_map (λ f. f) (map features_in (map condition.Feature fs)))
  each-feature [] h = tt
  each-feature (f ∷ fs) h = each-append F (features_in (condition.Feature f)) (flat_map (λ (g : List Feature). g) (map features_in (map condition.Feature fs))) (feature-is f h.0) (each-feature fs h.1)

  features-joined : (fs : List Feature) → AreFeatures fs → BehindIs (joined_features fs)
  features-joined [] h = tt
  features-joined (f ∷ []) h = feature-is f h.0
  features-joined (f ∷ g ∷ fs) h = subst AreFeatures (sym (folded-And gathering (map condition.Feature (f ∷ g ∷ fs)))) (each-feature (f ∷ g ∷ fs) h)

  -- Plain queries.

  record LayerIs (c : Condition) : Type 0 where
    features : AreFeatures (layer_features (out-Condition c))
    row : AreFeatures (layer_row (out-Condition c))

  abbrev Told : Condition → Type 0
  Told c = ConditionIs c → LayerIs c

  row-told : (cs : List Condition) → Each Told cs → AreFeatures (flat_map (λ f. f) (map features_in cs)) → AreFeatures (flat_map (λ c. layer_features (out-Condition c)) cs)
  row-told [] hs h = tt
  row-told (c ∷ cs) hs h =
      (let more = flat_map (λ (f : List Feature). f) (map features_in cs) in
      let first = hs.0 (each-front F (features_in c) more h) in
      each-append F (layer_features (out-Condition c)) (flat_map (λ d. layer_features (out-Condition d)) cs) first.features (row-told cs hs.1 (each-back F (features_in c) more h)))

  -- a condition that is laid open so
  laid-open : (c : Condition) (fs gs : List Feature) → AreFeatures fs → AreFeatures gs → layer_features (out-Condition c) ≡ fs → layer_row (out-Condition c) ≡ gs → LayerIs c
  laid-open c fs gs h k d e = record { features = subst AreFeatures (sym d) h; row = subst AreFeatures (sym e) k }

  layer-told : (c : Condition) → Told c
  layer-told = by_conditions Told (record {
    and_of = λ cs hs h.
        let row = row-told cs hs (subst AreFeatures (folded-And gathering cs) h) in
        laid-open (condition.And cs) [] (flat_map (λ c. layer_features (out-Condition c)) cs) tt row (ap layer_features (outs-And cs)) (ap layer_row (outs-And cs));
    or_of = λ cs hs h. laid-open (condition.Or cs) [] [] tt tt (ap layer_features (outs-Or cs)) (ap layer_row (outs-Or cs));
    not_of = λ c k h. laid-open (condition.Not c) [] [] tt tt (ap layer_features (outs-Not c)) (ap layer_row (outs-Not c));
    feature = λ f h.
        let fs = subst AreFeatures (folded-Feature gathering f) h in
        laid-open (condition.Feature f) (f ∷ []) (f ∷ []) fs fs (ap layer_features (outs-Feature f)) (ap layer_row (outs-Feature f));
    range = λ r h.
        let fs = subst AreFeatures (folded-Range gathering r) h in
        laid-open (condition.Range r) (range_features r) (range_features r) fs fs (ap layer_features (outs-Range r)) (ap layer_row (outs-Range r));
  })

  option-told : (o : Option Condition) → BehindIs o → AreFeatures (features_of o)
  option-told None h = tt
  option-told (Some c) h = (let told = layer-told c h in told.row)

  plain-are : (qs : List Query) → ListIs qs → ListIs (map plain_query qs)
  plain-are [] h = tt
  plain-are (q ∷ qs) h = (record { type = h.0.type; behind = features-joined (features_of q.condition) (option-told q.condition h.0.behind) }, plain-are qs h.1)

  -- One query.

  lone-fact : (wanted : Bool) (fact : Fact) → FactIs fact → AreFeatures (fact_features wanted fact)
  lone-fact true (facts.Feature f) h = (h, tt)
  lone-fact false (facts.Feature f) h = tt
  lone-fact true (facts.Media media) h = tt
  lone-fact false (facts.Media media) h = tt

  lone-literals : (ls : List Literal) → AllByRecursion LiteralIs ls → AreFeatures (literals_features ls)
  lone-literals [] h = tt
  lone-literals (l ∷ []) h = lone-fact l.positive l.fact h.0
  lone-literals (l ∷ m ∷ ls) h = tt

  lone-are : (cs : List Clause) → AreClauses cs → AreFeatures (flat_map lone_features cs)
  lone-are [] h = tt
  lone-are (c ∷ cs) h = each-append F (lone_features c) (flat_map lone_features cs) (lone-literals c.literals h.0) (lone-are cs h.1)

  named-at : (b : Bool) (media : List ℕ) → T media → TypeIs (if b then None else Some media)
  named-at true media h = tt
  named-at false media h = h

  named-type : (media : Option (List ℕ)) → TypeIs media → TypeIs (named_type media)
  named-type None h = tt
  named-type (Some media) h = named-at (is_text media (codes "all")) media h

  first-are : (media : Option (List ℕ)) (o : Option Condition) → TypeIs media → BehindIs o → AllByRecursion ListIs (first_list media o)
  first-are None None h k = tt
  first-are None (Some c) h k = ((record { type = h; behind = k }, tt), tt)
  first-are (Some media) None h k = ((record { type = h; behind = k }, tt), tt)
  first-are (Some media) (Some c) h k = ((record { type = h; behind = k }, tt), tt)

  -- Lowered lists. A literal that is not to hold is a query of the type `all`.
  module _ (all : T (codes "all")) where
    literal-is : (wanted : Bool) (fact : Fact) → FactIs fact → QueryIs (fact_query wanted fact)
    literal-is true (facts.Media media) h = record { type = h; behind = tt }
    literal-is false (facts.Media media) h = record { type = h; behind = tt }
    literal-is true (facts.Feature f) h = record { type = tt; behind = feature-is f h }
    literal-is false (facts.Feature f) h = record { type = all; behind = feature-is f h }

    each-literal : (ls : List Literal) → AllByRecursion LiteralIs ls → ListIs (map literal_query ls)
    each-literal [] h = tt
    each-literal (l ∷ ls) h = (literal-is l.positive l.fact h.0, each-literal ls h.1)

    literals-are : (ls : List Literal) → AllByRecursion LiteralIs ls → ListIs (literal_queries ls)
    literals-are [] h = (record { type = all; behind = tt }, tt)
    literals-are (l ∷ ls) h = each-literal (l ∷ ls) h

    each-clause : (cs : List Clause) → AreClauses cs → AllByRecursion ListIs (map clause_queries cs)
    each-clause [] h = tt
    each-clause (c ∷ cs) h = (literals-are c.literals h.0, each-clause cs h.1)

    further-lists : (c : Clause) (fs : List Feature) → ClauseIs c → AllByRecursion ListIs (further_lists c fs)
    further-lists c [] h = (literals-are c.literals h, tt)
    further-lists c (f ∷ fs) h = tt

    all-further : (cs : List Clause) → AreClauses cs → AllByRecursion ListIs (flat_map (λ c. further_lists c (lone_features c)) cs)
    all-further [] h = tt
    all-further (c ∷ cs) h = each-append ListIs (further_lists c (lone_features c)) (flat_map (λ d. further_lists d (lone_features d)) cs) (further-lists c (lone_features c) h.0) (all-further cs h.1)

    parts-are : (media : Option (List ℕ)) (cs : List Clause) → TypeIs media → AreClauses cs → AllByRecursion ListIs (by_parts media cs)
    parts-are media cs h k =
        each-append ListIs (first_list (named_type media) (joined_features (flat_map lone_features cs))) (flat_map (λ (c : Clause). further_lists c (lone_features c)) cs)
        (first-are (named_type media) (joined_features (flat_map lone_features cs)) (named-type media h) (features-joined (flat_map lone_features cs) (lone-are cs k)))
        (all-further cs k)

    query-parts : (p : Prefix) (q : Query) → QueryIs q → AllByRecursion ListIs (query_parts p q)
    query-parts Plain q h = (let sides = option-sides q.condition h.behind in parts-are q.media (option_sides q.condition).pos h.type sides.pos)
    query-parts Only q h = (let sides = option-sides q.condition h.behind in parts-are q.media (option_sides q.condition).pos h.type sides.pos)
    query-parts Not q h = each-clause (clauses (q ∷ [])) (clauses-are (q ∷ []) (h, tt))

    clauses-lists : (q : Query) (qs : List Query) → ListIs (q ∷ qs) → AllByRecursion ListIs (by_clauses (q ∷ qs))
    clauses-lists q [] h = query-parts q.prefix q h.0
    clauses-lists q (r ∷ qs) h = each-clause (clauses (q ∷ r ∷ qs)) (clauses-are (q ∷ r ∷ qs) h)

    lowered-at : (plain : Bool) (q : Query) (qs : List Query) → ListIs (q ∷ qs) → AllByRecursion ListIs (if plain then map plain_query (q ∷ qs) ∷ [] else by_clauses (q ∷ qs))
    lowered-at true q qs h = (plain-are (q ∷ qs) h, tt)
    lowered-at false q qs h = clauses-lists q qs h

    -- What holds of a list holds of each list of its lowered form.
    pub lowered-are : (qs : List Query) → ListIs qs → AllByRecursion ListIs (lowered qs)
    lowered-are [] h = tt
    lowered-are (q ∷ qs) h = lowered-at (list_all is_plain (q ∷ qs)) q qs h
