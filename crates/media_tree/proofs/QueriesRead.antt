-- The text of a media query list is read as its words.
use Rattle.std.proofs.Common.{◌≡◌, ℕ, List, [], ◌∷◌, ◌++◌, map, true, false, ◌&&◌, not, refl, sym, ap, ◌∙◌, subst, codes}
use Rattle.std.specs.Prelude.{Option, Some, None, flat_map}
use Rattle.std.specs.List.{AllByRecursion, list_all, list_any}
use Rattle.std.proofs.lemmas.Bool.{and_parts, false≢true}
use Rattle.css_tokens.specs.declared.kind.Kind.TheVariants as kinds
use Rattle.css_tokens.specs.declared.component.Component.{Component}
use Rattle.css_tokens.specs.Again.{after_ident, begins_none}
use Rattle.css_tokens.specs.NameText.{name_text}
use Rattle.css_tokens.specs.Names.{is_name}
use Rattle.css_tokens.specs.Tokens.{ReadsTo}
use Rattle.css_tokens.specs.Trees.{is_text, words_all}
use Rattle.media_spelling.specs.declared.condition.Condition.{Condition}
use Rattle.media_spelling.specs.declared.condition.Prefix.{Prefix}
use Rattle.media_spelling.specs.declared.condition.Prefix.TheVariants as prefixes
use Rattle.media_spelling.specs.declared.condition.Query.{Query}
use Rattle.media_spelling.specs.Components.{ident, keyword, space, text_of}
use Rattle.media_spelling.specs.ConditionFold.{folded-And, folded-Or, folded-Not, folded-Feature, folded-Range}
use Rattle.media_spelling.specs.ConditionInduction.{Each, by_conditions}
use Rattle.media_spelling.specs.Spelling.{joined, more_spelling, prefix_spelling, queries_spelling, queries_text, query_spelling, spelled_condition, spelling, typed_spelling}
use Rattle.media_tree.specs.ReadValues.{StandsAsValue, ValuesStand, values, values_behind, values_in, values_of}
use Rattle.media_tree.specs.ReadableQueries.{are_readable_queries, barred_types, has_two, is_lower_name, is_readable_behind, is_readable_condition, is_readable_query, is_readable_type, is_readable_typed, readable}
use Rattle.media_tree.proofs.QueriesBegin.{IsDark, single-dark}
use Rattle.media_tree.proofs.SpelledReads.{IsKeyword, ReadsAnywhere, SpelledReads, is-and, is-not, is-only, is-or, keyword-on, on-append, reads-alternative, reads-compound, reads-negated, row-dark, row-read, space-on}
use Rattle.media_tree.proofs.WordsRead.{ReadsOn, on-nothing, on-single, text-first}
use Rattle.media_tree.proofs.FeaturesRead.{AllStand, QueryWords, feature-held, lower-is, range-held}
use Rattle.media_tree.proofs.ListsHold.{each-back, each-front}

module _ (q : QueryWords) where
  -- Conditions.

  abbrev Held : Condition → Type 0
  Held c = SpelledReads (spelled_condition c)

  abbrev Reads : Condition → Type 0
  Reads c = is_readable_condition c ≡ true → AllStand (values_in c) → Held c

  all-held : (cs : List Condition) → Each Reads cs → list_all (λ b. b) (map is_readable_condition cs) ≡ true → AllStand (flat_map (λ v. v) (map values_in cs)) → AllByRecursion Held cs
  all-held [] h r stand = tt
  all-held (c ∷ cs) h r stand =
      (let p = and_parts (is_readable_condition c) (list_all (λ b. b) (map is_readable_condition cs)) r in
      let more = flat_map (λ v. v) (map values_in cs) in
      (h.0 p.0 (each-front StandsAsValue (values_in c) more stand), all-held cs h.1 p.1 (each-back StandsAsValue (values_in c) more stand)))

  -- two and more
  module _ (t : List ℕ) (is : IsKeyword t) where
    abbrev row : List Condition → List Component
    row cs = joined t (map spelled_condition cs)

    row-reads : (cs : List Condition) → has_two (map is_readable_condition cs) ≡ true → AllByRecursion Held cs → ReadsAnywhere (row cs) × IsDark (row cs)
    row-reads [] two h = absurd (false≢true two)
    row-reads (c ∷ cs) two h = (row-read q.words spelled_condition t is c cs h, row-dark q.words spelled_condition t is c cs h)

    row-of : (cs : List Condition) → Each Reads cs → (has_two (map is_readable_condition cs) && list_all (λ b. b) (map is_readable_condition cs)) ≡ true → AllStand (flat_map (λ v. v) (map values_in cs)) → ReadsAnywhere (row cs) × IsDark (row cs)
    row-of cs h r stand =
        (let p = and_parts (has_two (map is_readable_condition cs)) (list_all (λ b. b) (map is_readable_condition cs)) r in
        row-reads cs p.0 (all-held cs h p.1 stand))

  condition-held : (c : Condition) → Reads c
  condition-held c =
      by_conditions Reads
      (record {
        and_of = λ cs h r stand.
            let row = row-of (codes "and") is-and cs h (sym (folded-And readable cs) ∙ r) (subst AllStand (folded-And values cs) stand) in
            subst SpelledReads (sym (folded-And spelling cs)) (reads-compound q.words (joined (codes "and") (map spelled_condition cs)) row.0 row.1);
        or_of = λ cs h r stand.
            let row = row-of (codes "or") is-or cs h (sym (folded-Or readable cs) ∙ r) (subst AllStand (folded-Or values cs) stand) in
            subst SpelledReads (sym (folded-Or spelling cs)) (reads-alternative q.words (joined (codes "or") (map spelled_condition cs)) row.0);
        not_of = λ d h r stand.
            subst SpelledReads (sym (folded-Not spelling d))
            (reads-negated q.words is-not (spelled_condition d) (h (sym (folded-Not readable d) ∙ r) (subst AllStand (folded-Not values d) stand)));
        feature = λ f r stand. subst SpelledReads (sym (folded-Feature spelling f)) (feature-held q f (sym (folded-Feature readable f) ∙ r) (subst AllStand (folded-Feature values f) stand));
        range = λ f r stand. subst SpelledReads (sym (folded-Range spelling f)) (range-held q f (sym (folded-Range readable f) ∙ r) (subst AllStand (folded-Range values f) stand));
      })
      c

  -- Queries.

  type-is : (m : List ℕ) → is_readable_type m ≡ true → is_name m ≡ true
  type-is m h = lower-is m (and_parts (is_lower_name m) (not (list_any (is_text m) barred_types)) h).0

  -- a media type, and a condition behind it
  typed-on : (m : List ℕ) (c : Option Condition) (rest : List ℕ) → (is_readable_type m && is_readable_behind c) ≡ true → AllStand (values_behind c) → begins_none after_ident rest ≡ true → ReadsOn (typed_spelling (Some m) c) rest
  typed-on m None rest r stand follows = on-single kinds.Ident (name_text m) [] rest refl (q.words.ident m rest (type-is m (and_parts (is_readable_type m) true r).0) follows) (on-nothing rest)
  typed-on m (Some c) rest r stand follows =
      (let p = and_parts (is_readable_type m) (is_readable_condition c) r in
      let held = condition-held c p.1 stand in
      let behind = (spelled_condition c).behind in
      let conjoined = keyword (codes "and") ∷ space ∷ behind in
      let before : begins_none after_ident (text_of (space ∷ conjoined) ++ rest) ≡ true = ap (begins_none after_ident) (text-first kinds.White (codes " ") conjoined rest) in
      on-single kinds.Ident (name_text m) (space ∷ conjoined) rest refl (q.words.ident m (text_of (space ∷ conjoined) ++ rest) (type-is m p.0) before)
      (space-on q.words conjoined rest (single-dark (codes "and") (space ∷ behind) is-and.dark)
      (keyword-on q.words (codes "and") behind rest is-and (space-on q.words behind rest held.dark (held.behind rest)))))

  typed-dark : (m : List ℕ) (c : Option Condition) → is_readable_type m ≡ true → IsDark (typed_spelling (Some m) c)
  typed-dark m None h = single-dark (name_text m) [] (λ rest. q.no_white m rest (type-is m h))
  typed-dark m (Some c) h = single-dark (name_text m) (space ∷ keyword (codes "and") ∷ space ∷ (spelled_condition c).behind) (λ rest. q.no_white m rest (type-is m h))

  -- the same behind a prefix
  prefixed-on : (t m : List ℕ) (c : Option Condition) (rest : List ℕ) → IsKeyword t → (is_readable_type m && is_readable_behind c) ≡ true → AllStand (values_behind c) → begins_none after_ident rest ≡ true → ReadsOn (keyword t ∷ space ∷ typed_spelling (Some m) c) rest
  prefixed-on t m c rest is r stand follows =
      (let typed = typed_spelling (Some m) c in
      keyword-on q.words t typed rest is (space-on q.words typed rest (typed-dark m c (and_parts (is_readable_type m) (is_readable_behind c) r).0) (typed-on m c rest r stand follows)))

  query-on : (p : Prefix) (media : Option (List ℕ)) (c : Option Condition) (rest : List ℕ) → is_readable_typed p media c ≡ true → AllStand (values_behind c) → begins_none after_ident rest ≡ true → ReadsOn (prefix_spelling p ++ typed_spelling media c) rest
  query-on prefixes.Plain (Some m) c rest r stand follows = typed-on m c rest r stand follows
  query-on prefixes.Not (Some m) c rest r stand follows = prefixed-on (codes "not") m c rest is-not r stand follows
  query-on prefixes.Only (Some m) c rest r stand follows = prefixed-on (codes "only") m c rest is-only r stand follows
  query-on prefixes.Plain None (Some c) rest r stand follows = (let held = condition-held c r stand in held.alone rest)
  query-on p None c rest r stand follows = absurd (false≢true r)

  -- Lists.

  more-on : (qs : List Query) (rest : List ℕ) → are_readable_queries qs ≡ true → ValuesStand qs → begins_none after_ident rest ≡ true
      → ReadsOn (more_spelling (map query_spelling qs)) rest × (begins_none after_ident (text_of (more_spelling (map query_spelling qs)) ++ rest) ≡ true)
  more-on [] rest r stand follows = (on-nothing rest, follows)
  more-on (p ∷ qs) rest r stand follows =
      (let parts = and_parts (is_readable_query p) (are_readable_queries qs) r in
      let here = query_spelling p in
      let more = more-on qs rest parts.1 (each-back StandsAsValue (values_behind p.condition) (values_of qs) stand) follows in
      let others = more_spelling (map query_spelling qs) in
      let query = query-on p.prefix p.media p.condition (text_of others ++ rest) parts.0 (each-front StandsAsValue (values_behind p.condition) (values_of qs) stand) more.1 in (
        on-single kinds.Comma (codes ",") (here ++ others) rest refl (q.words.marked.1.1.1.1.1.1.1.1.0 (text_of (here ++ others) ++ rest)) (on-append q.words here others rest query more.0),
        ap (begins_none after_ident) (text-first kinds.Comma (codes ",") (here ++ others) rest),
      ))

  -- The text of a readable list, of which each value stands as one, is read as its words.
  pub queries-on : (qs : List Query) (rest : List ℕ) → are_readable_queries qs ≡ true → ValuesStand qs → begins_none after_ident rest ≡ true → ReadsTo (queries_text qs ++ rest) (words_all (queries_spelling qs)) rest
  queries-on [] rest r stand follows = refl
  queries-on (p ∷ qs) rest r stand follows =
      (let parts = and_parts (is_readable_query p) (are_readable_queries qs) r in
      let more = more-on qs rest parts.1 (each-back StandsAsValue (values_behind p.condition) (values_of qs) stand) follows in
      let others = more_spelling (map query_spelling qs) in
      on-append q.words (query_spelling p) others rest
      (query-on p.prefix p.media p.condition (text_of others ++ rest) parts.0 (each-front StandsAsValue (values_behind p.condition) (values_of qs) stand) more.1) more.0)
