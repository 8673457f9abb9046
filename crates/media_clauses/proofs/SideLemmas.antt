-- Clauses hold where what they are the clauses of holds.
use Rattle.std.proofs.Common.{◌≡◌, ℕ, List, [], ◌∷◌, ◌++◌, Bool, true, false, not, ◌&&◌, ◌||◌, map, flat_map, refl, ◌∙◌, ap, sym}
use Rattle.std.specs.Prelude.{codes, Option, Some, None, if◌then◌else◌}
use Rattle.std.specs.List.{list_all, list_any}
use Rattle.std.specs.Option.{option_map_or}
use Rattle.std.proofs.lemmas.List.Folds.{list_all-append}
use Rattle.cascade_spec.specs.declared.environment.Environment.{Environment}
use Rattle.cascade_spec.specs.Truth.{condition_holds, condition_truth, feature_holds, prefixed, queries_hold, query_holds, type_holds}
use Rattle.css_tokens.specs.Trees.{is_text}
use Rattle.media_spelling.specs.declared.condition.Condition.{Condition}
use Rattle.media_spelling.specs.declared.condition.Condition as condition
use Rattle.media_spelling.specs.declared.condition.Feature.{Feature}
use Rattle.media_spelling.specs.declared.condition.Prefix.{Prefix}
use Rattle.media_spelling.specs.declared.condition.Prefix.TheVariants.{Plain, Only, Not}
use Rattle.media_spelling.specs.declared.condition.Query.{Query}
use Rattle.media_spelling.specs.declared.condition.Range.{Range}
use Rattle.media_spelling.specs.ConditionFold.{folded-And, folded-Or, folded-Not, folded-Feature, folded-Range}
use Rattle.media_spelling.specs.ConditionInduction.{Each, by_conditions}
use Rattle.media_clauses.specs.declared.clause.Fact.TheVariants as facts
use Rattle.media_clauses.specs.Clauses.{alone, clauses, negative, option_sides, positive, prefixed_clauses, query_clauses, range_literals, side, sides_of, turned, type_facts}
use Rattle.media_clauses.specs.Holding.{clause_holds, clauses_hold, signed}
use Rattle.media_clauses.specs.KnownRanges.{has_known_ranges, have_known_ranges, known_ranges}
use Rattle.media_clauses.proofs.BoolLemmas.{all-map, all-not, and-left, and-right, and-true, any-map, any-not, both, either, not-and, or-false, signed-not}
use Rattle.media_clauses.proofs.FactLemmas.{alone-hold, range-literals, turned-holds}
use Rattle.media_clauses.proofs.ProductLemmas.{product-holds, products-hold}
use Rattle.media_clauses.proofs.SideEquations.{side-And, side-Or, side-Not, side-Feature, side-Range}

-- which ranges are known in conditions that are joined
pub known-And : (cs : List Condition) → has_known_ranges (condition.And cs) ≡ list_all has_known_ranges cs
known-And cs = folded-And known_ranges cs ∙ all-map (λ b. b) has_known_ranges cs

pub known-Or : (cs : List Condition) → has_known_ranges (condition.Or cs) ≡ list_all has_known_ranges cs
known-Or cs = folded-Or known_ranges cs ∙ all-map (λ b. b) has_known_ranges cs

module _ (env : Environment) where
  -- both sides of a condition hold as they should
  abbrev Holds : Condition → Type 0
  Holds c = has_known_ranges c ≡ true → (wanted : Bool) → clauses_hold env (side wanted (sides_of c)) ≡ signed wanted (condition_holds env c)

  -- several conditions
  each-hold : (wanted : Bool) (cs : List Condition) → Each Holds cs → list_all has_known_ranges cs ≡ true
      → clauses_hold env (flat_map (λ c. side wanted (sides_of c)) cs) ≡ list_all (λ c. signed wanted (condition_holds env c)) cs
  each-hold wanted [] hs known = refl
  each-hold wanted (c ∷ cs) hs known =
      list_all-append (clause_holds env) (side wanted (sides_of c)) (flat_map (λ c. side wanted (sides_of c)) cs)
      ∙ both (clauses_hold env (side wanted (sides_of c))) (clauses_hold env (flat_map (λ c. side wanted (sides_of c)) cs)) (signed wanted (condition_holds env c)) (list_all (λ c. signed wanted (condition_holds env c)) cs)
      (hs.0 (and-left (has_known_ranges c) (list_all has_known_ranges cs) known) wanted)
      (each-hold wanted cs hs.1 (and-right (has_known_ranges c) (list_all has_known_ranges cs) known))

  one-holds : (wanted : Bool) (cs : List Condition) → Each Holds cs → list_all has_known_ranges cs ≡ true
      → list_any (clauses_hold env) (map (λ c. side wanted (sides_of c)) cs) ≡ list_any (λ c. signed wanted (condition_holds env c)) cs
  one-holds wanted [] hs known = refl
  one-holds wanted (c ∷ cs) hs known =
      either (clauses_hold env (side wanted (sides_of c))) (list_any (clauses_hold env) (map (λ c. side wanted (sides_of c)) cs)) (signed wanted (condition_holds env c)) (list_any (λ c. signed wanted (condition_holds env c)) cs)
      (hs.0 (and-left (has_known_ranges c) (list_all has_known_ranges cs) known) wanted)
      (one-holds wanted cs hs.1 (and-right (has_known_ranges c) (list_all has_known_ranges cs) known))

  -- what holds of conditions that are joined
  pub holds-And : (cs : List Condition) → condition_holds env (condition.And cs) ≡ list_all (condition_holds env) cs
  holds-And cs = folded-And (condition_truth env) cs ∙ all-map (λ b. b) (condition_holds env) cs

  holds-Or : (cs : List Condition) → condition_holds env (condition.Or cs) ≡ list_any (condition_holds env) cs
  holds-Or cs = folded-Or (condition_truth env) cs ∙ any-map (λ b. b) (condition_holds env) cs

  pub holds-Feature : (f : Feature) → condition_holds env (condition.Feature f) ≡ feature_holds env f
  holds-Feature f = folded-Feature (condition_truth env) f

  and-case : (cs : List Condition) → Each Holds cs → Holds (condition.And cs)
  and-case cs hs known true =
      ap (clauses_hold env) (side-And true cs) ∙ each-hold true cs hs (sym (known-And cs) ∙ known) ∙ sym (holds-And cs)
  and-case cs hs known false =
      ap (clauses_hold env) (side-And false cs)
      ∙ products-hold env (map (λ c. side false (sides_of c)) cs)
      ∙ one-holds false cs hs (sym (known-And cs) ∙ known)
      ∙ any-not (condition_holds env) cs
      ∙ ap not (sym (holds-And cs))

  or-case : (cs : List Condition) → Each Holds cs → Holds (condition.Or cs)
  or-case cs hs known true =
      ap (clauses_hold env) (side-Or true cs)
      ∙ products-hold env (map (λ c. side true (sides_of c)) cs)
      ∙ one-holds true cs hs (sym (known-Or cs) ∙ known)
      ∙ sym (holds-Or cs)
  or-case cs hs known false =
      ap (clauses_hold env) (side-Or false cs)
      ∙ each-hold false cs hs (sym (known-Or cs) ∙ known)
      ∙ all-not (condition_holds env) cs
      ∙ ap not (sym (holds-Or cs))

  not-case : (c : Condition) → Holds c → Holds (condition.Not c)
  not-case c h known wanted =
      ap (clauses_hold env) (side-Not wanted c)
      ∙ h (sym (folded-Not known_ranges c) ∙ known) (not wanted)
      ∙ signed-not wanted (condition_holds env c)
      ∙ signed-of-not wanted (condition_holds env c)
      ∙ ap (signed wanted) (sym (folded-Not (condition_truth env) c))
    where
      signed-of-not : (a b : Bool) → not (signed a b) ≡ signed a (not b)
      signed-of-not true b = refl
      signed-of-not false b = refl

  feature-case : (f : Feature) → Holds (condition.Feature f)
  feature-case f known wanted =
      ap (clauses_hold env) (side-Feature wanted f)
      ∙ and-true (signed wanted (feature_holds env f) || false)
      ∙ or-false (signed wanted (feature_holds env f))
      ∙ ap (signed wanted) (sym (holds-Feature f))

  range-case : (r : Range) → Holds (condition.Range r)
  range-case r known true =
      ap (clauses_hold env) (side-Range true r)
      ∙ alone-hold env (range_literals r)
      ∙ range-literals env r (sym (folded-Range known_ranges r) ∙ known)
      ∙ sym (folded-Range (condition_truth env) r)
  range-case r known false =
      ap (clauses_hold env) (side-Range false r)
      ∙ and-true (clause_holds env (record { literals = map turned (range_literals r) }))
      ∙ turned-holds env (range_literals r)
      ∙ ap not (range-literals env r (sym (folded-Range known_ranges r) ∙ known) ∙ sym (folded-Range (condition_truth env) r))

  pub condition-holds : (c : Condition) → Holds c
  condition-holds = by_conditions Holds (record { and_of = and-case; or_of = or-case; not_of = not-case; feature = feature-case; range = range-case })

  -- what may be a condition
  pub option-holds : (c : Option Condition) → option_map_or has_known_ranges c true ≡ true → (wanted : Bool)
      → clauses_hold env (side wanted (option_sides c)) ≡ signed wanted (option_map_or (condition_holds env) c true)
  option-holds None known true = refl
  option-holds None known false = refl
  option-holds (Some c) known wanted = condition-holds c known wanted

  -- the media type
  type-or : (media : List ℕ) (all : Bool) → is_text media (codes "all") ≡ all
      → clauses_hold env (map (λ t. alone (positive t)) (if all then [] else facts.Media media ∷ [])) ≡ type_holds env media
  type-or media true e = sym (ap (λ (b : Bool). b || is_text media env.media) e)
  type-or media false e = and-true (type_holds env media || false) ∙ or-false (type_holds env media)

  type-holds : (media : Option (List ℕ)) → clauses_hold env (map (λ t. alone (positive t)) (type_facts media)) ≡ option_map_or (type_holds env) media true
  type-holds None = refl
  type-holds (Some media) = type-or media (is_text media (codes "all")) refl

  no-type-or : (media : List ℕ) (all : Bool) → is_text media (codes "all") ≡ all
      → clause_holds env (record { literals = map negative (if all then [] else facts.Media media ∷ []) }) ≡ not (type_holds env media)
  no-type-or media true e = sym (ap (λ (b : Bool). not (b || is_text media env.media)) e)
  no-type-or media false e = or-false (not (type_holds env media))

  no-type-holds : (media : Option (List ℕ)) → clause_holds env (record { literals = map negative (type_facts media) }) ≡ not (option_map_or (type_holds env) media true)
  no-type-holds None = refl
  no-type-holds (Some media) = no-type-or media (is_text media (codes "all")) refl

  -- queries
  asked-hold : (media : Option (List ℕ)) (c : Option Condition) → option_map_or has_known_ranges c true ≡ true
      → clauses_hold env (map (λ t. alone (positive t)) (type_facts media) ++ (option_sides c).pos) ≡ (option_map_or (type_holds env) media true && option_map_or (condition_holds env) c true)
  asked-hold media c known =
      list_all-append (clause_holds env) (map (λ t. alone (positive t)) (type_facts media)) (option_sides c).pos
      ∙ both (clauses_hold env (map (λ t. alone (positive t)) (type_facts media))) (clauses_hold env (option_sides c).pos) (option_map_or (type_holds env) media true) (option_map_or (condition_holds env) c true)
      (type-holds media)
      (option-holds c known true)

  prefixed-hold : (p : Prefix) (media : Option (List ℕ)) (c : Option Condition) → option_map_or has_known_ranges c true ≡ true
      → clauses_hold env (prefixed_clauses p (type_facts media) (option_sides c)) ≡ prefixed p (option_map_or (type_holds env) media true && option_map_or (condition_holds env) c true)
  prefixed-hold Plain media c known = asked-hold media c known
  prefixed-hold Only media c known = asked-hold media c known
  prefixed-hold Not media c known =
      product-holds env (record { literals = map negative (type_facts media) } ∷ []) (option_sides c).neg
      ∙ either (clauses_hold env (record { literals = map negative (type_facts media) } ∷ [])) (clauses_hold env (option_sides c).neg) (not (option_map_or (type_holds env) media true)) (not (option_map_or (condition_holds env) c true))
      (and-true (clause_holds env (record { literals = map negative (type_facts media) })) ∙ no-type-holds media)
      (option-holds c known false)
      ∙ sym (not-and (option_map_or (type_holds env) media true) (option_map_or (condition_holds env) c true))

  query-holds : (q : Query) → option_map_or has_known_ranges q.condition true ≡ true → clauses_hold env (query_clauses q) ≡ query_holds env q
  query-holds q known = prefixed-hold q.prefix q.media q.condition known

  -- lists
  one-query : (qs : List Query) → have_known_ranges qs ≡ true → list_any (clauses_hold env) (map query_clauses qs) ≡ list_any (query_holds env) qs
  one-query [] known = refl
  one-query (q ∷ qs) known =
      either (clauses_hold env (query_clauses q)) (list_any (clauses_hold env) (map query_clauses qs)) (query_holds env q) (list_any (query_holds env) qs)
      (query-holds q (and-left (option_map_or has_known_ranges q.condition true) (have_known_ranges qs) known))
      (one-query qs (and-right (option_map_or has_known_ranges q.condition true) (have_known_ranges qs) known))

  pub list-clauses : (qs : List Query) → have_known_ranges qs ≡ true → clauses_hold env (clauses qs) ≡ queries_hold env qs
  list-clauses [] known = refl
  list-clauses (q ∷ qs) known = products-hold env (map query_clauses (q ∷ qs)) ∙ one-query (q ∷ qs) known
