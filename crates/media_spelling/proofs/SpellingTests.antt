-- What holds of each component that media queries and supports conditions are spelled with.
use Rattle.std.proofs.Common.{◌≡◌, ℕ, List, [], ◌∷◌, ◌++◌, map, Bool, true, false, ◌&&◌, not, refl, sym, ap, ap₂, ◌∙◌, subst}
use Rattle.std.specs.Prelude.{Option, Some, None, codes, if◌then◌else◌}
use Rattle.std.specs.List.{list_all}
use Rattle.std.proofs.lemmas.Bool.{and_parts}
use Rattle.std.proofs.lemmas.List.Folds.{list_all-append}
use Rattle.css_tokens.specs.declared.kind.Kind.{Kind}
use Rattle.css_tokens.specs.declared.kind.Kind.TheVariants as kinds
use Rattle.css_tokens.specs.declared.component.Component.{Component}
use Rattle.css_tokens.specs.declared.component.Component.TheOpen.{Single}
use Rattle.css_tokens.specs.declared.component.Component.TheVariants.{outs-Single, outs-Block}
use Rattle.css_tokens.specs.NameText.{name_text}
use Rattle.css_tokens.specs.Trees.{all_formed, closes, is_formed, is_formed-Single, is_formed-Block, is_text, opens}
use Rattle.media_spelling.specs.declared.condition.Bound.{Bound}
use Rattle.media_spelling.specs.declared.condition.Condition.{Condition}
use Rattle.media_spelling.specs.declared.condition.Condition as condition
use Rattle.media_spelling.specs.declared.condition.Feature.{Feature}
use Rattle.media_spelling.specs.declared.condition.Prefix.{Prefix}
use Rattle.media_spelling.specs.declared.condition.Prefix.TheVariants as prefixes
use Rattle.media_spelling.specs.declared.condition.Query.{Query}
use Rattle.media_spelling.specs.declared.condition.Range.{Range}
use Rattle.media_spelling.specs.declared.condition.Relation.{Relation}
use Rattle.media_spelling.specs.declared.condition.Relation.TheVariants as relations
use Rattle.media_spelling.specs.Components.{block, colon, comma, delim, ident, keyword, parens, single, space, text_of}
use Rattle.media_spelling.specs.ConditionFold.{folded-And, folded-Or, folded-Not, folded-Feature, folded-Range}
use Rattle.media_spelling.specs.ConditionInduction.{Each, by_conditions}
use Rattle.media_spelling.specs.Preludes.{layer_stands, stands}
use Rattle.media_spelling.specs.Spelling.{Spelled, alternative, bound_before, bound_behind, bounds_spelling, compound, ends_in_dashes, enclosed, feature_spelling, feature_value, further, joined, more_spelling, negated, prefix_spelling, queries_spelling, query_spelling, range_spelling, relation_spelling, space_behind, spelled_condition, spelling, turned, typed_spelling}
use Rattle.media_spelling.specs.TextComponents.{levels_of, text_components, words_in}

pub both : {a b : Bool} → a ≡ true → b ≡ true → (a && b) ≡ true
both h k = ap₂ ◌&&◌ h k

-- a test that holds of each component that conditions are made of
pub record Passes (test : Component → Bool) : Type 0 where
  pub keyword : (t : List ℕ) → test (keyword t) ≡ true
  pub space : test space ≡ true
  pub comma : test comma ≡ true
  pub parens : (cs : List Component) → list_all test cs ≡ true → test (parens cs) ≡ true
  pub feature : (f : Feature) → test (feature_spelling f) ≡ true
  pub range : (r : Range) → test (range_spelling r) ≡ true

module _ (test : Component → Bool) (passes : Passes test) where
  append-all : (a b : List Component) → list_all test a ≡ true → list_all test b ≡ true → list_all test (a ++ b) ≡ true
  append-all a b h k = list_all-append test a b ∙ both h k

  -- each component passes, wherever the condition stands
  record Holds (s : Spelled) : Type 0 where
    alone : list_all test s.alone ≡ true
    inside : list_all test s.inside ≡ true
    behind : list_all test s.behind ≡ true

  alone-in-parens : (cs : List Component) → list_all test cs ≡ true → list_all test (parens cs ∷ []) ≡ true
  alone-in-parens cs h = both (passes.parens cs h) refl

  holds-enclosed : (x : Component) → test x ≡ true → Holds (enclosed x)
  holds-enclosed x h = record { alone = both h refl; inside = both h refl; behind = both h refl }

  holds-compound : (cs : List Component) → list_all test cs ≡ true → Holds (compound cs)
  holds-compound cs h = record { alone = h; inside = alone-in-parens cs h; behind = h }

  holds-alternative : (cs : List Component) → list_all test cs ≡ true → Holds (alternative cs)
  holds-alternative cs h = record { alone = h; inside = alone-in-parens cs h; behind = alone-in-parens cs h }

  joint-all : (joint : List ℕ) (cs : List Component) → list_all test cs ≡ true → list_all test (space ∷ keyword joint ∷ space ∷ cs) ≡ true
  joint-all joint cs h = both passes.space (both (passes.keyword joint) (both passes.space h))

  abbrev Held : Condition → Type 0
  Held c = Holds (spelled_condition c)

  further-all : (joint : List ℕ) (cs : List Condition) → Each Held cs → list_all test (further joint (map spelled_condition cs)) ≡ true
  further-all joint [] h = refl
  further-all joint (c ∷ cs) h = joint-all joint ((spelled_condition c).inside ++ further joint (map spelled_condition cs)) (append-all (spelled_condition c).inside (further joint (map spelled_condition cs)) h.0.inside (further-all joint cs h.1))

  joined-all : (joint : List ℕ) (cs : List Condition) → Each Held cs → list_all test (joined joint (map spelled_condition cs)) ≡ true
  joined-all joint [] h = refl
  joined-all joint (c ∷ cs) h = append-all (spelled_condition c).inside (further joint (map spelled_condition cs)) h.0.inside (further-all joint cs h.1)

  conditions-pass : (c : Condition) → Held c
  conditions-pass c =
      by_conditions Held
      (record {
        and_of = λ cs h. subst Holds (sym (folded-And spelling cs)) (holds-compound (joined (codes "and") (map spelled_condition cs)) (joined-all (codes "and") cs h));
        or_of = λ cs h. subst Holds (sym (folded-Or spelling cs)) (holds-alternative (joined (codes "or") (map spelled_condition cs)) (joined-all (codes "or") cs h));
        not_of = λ d h. subst Holds (sym (folded-Not spelling d)) (holds-compound (negated (spelled_condition d)) (both (passes.keyword (codes "not")) (both passes.space h.inside)));
        feature = λ f. subst Holds (sym (folded-Feature spelling f)) (holds-enclosed (feature_spelling f) (passes.feature f));
        range = λ r. subst Holds (sym (folded-Range spelling r)) (holds-enclosed (range_spelling r) (passes.range r));
      })
      c

  prefix-passes : (p : Prefix) → list_all test (prefix_spelling p) ≡ true
  prefix-passes prefixes.Plain = refl
  prefix-passes prefixes.Not = both (passes.keyword (codes "not")) (both passes.space refl)
  prefix-passes prefixes.Only = both (passes.keyword (codes "only")) (both passes.space refl)

  typed-passes : (media : Option (List ℕ)) (c : Option Condition) → list_all test (typed_spelling media c) ≡ true
  typed-passes None None = refl
  typed-passes None (Some c) = (conditions-pass c).alone
  typed-passes (Some media) None = both (passes.keyword (name_text media)) refl
  typed-passes (Some media) (Some c) = both (passes.keyword (name_text media)) (joint-all (codes "and") (spelled_condition c).behind (conditions-pass c).behind)

  query-passes : (q : Query) → list_all test (query_spelling q) ≡ true
  query-passes q = append-all (prefix_spelling q.prefix) (typed_spelling q.media q.condition) (prefix-passes q.prefix) (typed-passes q.media q.condition)

  more-pass : (qs : List Query) → list_all test (more_spelling (map query_spelling qs)) ≡ true
  more-pass [] = refl
  more-pass (q ∷ qs) = both passes.comma (append-all (query_spelling q) (more_spelling (map query_spelling qs)) (query-passes q) (more-pass qs))

  pub queries-pass : (qs : List Query) → list_all test (queries_spelling qs) ≡ true
  queries-pass [] = refl
  queries-pass (q ∷ qs) = append-all (query_spelling q) (more_spelling (map query_spelling qs)) (query-passes q) (more-pass qs)

-- Before a block.

pub stands-single : (k : Kind) (t : List ℕ) → stands (single k t) ≡ layer_stands (Single (record { kind = k; text = t; at = 0 }))
stands-single k t = ap layer_stands (outs-Single (record { kind = k; text = t; at = 0 }))

pub stands-parens : (cs : List Component) → stands (parens cs) ≡ true
stands-parens cs = ap layer_stands (outs-Block (record { opening = record { kind = kinds.Open; text = codes "("; at = 0 }; items = cs; close = 0 }))

pub passes-stands : Passes stands
passes-stands = record {
  keyword = λ t. stands-single kinds.Ident t;
  space = stands-single kinds.White (codes " ");
  comma = stands-single kinds.Comma (codes ",");
  parens = λ cs h. stands-parens cs;
  feature = λ f. stands-parens (ident f.name ∷ feature_value f.value);
  range = λ r. stands-parens (bounds_spelling r.name r.first r.second);
}

-- Well formed.

pub formed-single : (k : Kind) (t : List ℕ) → is_formed (single k t) ≡ (not (opens k) && not (closes k))
formed-single k t = is_formed-Single (record { kind = k; text = t; at = 0 })

pub formed-parens : (cs : List Component) → all_formed cs ≡ true → is_formed (parens cs) ≡ true
formed-parens cs h = is_formed-Block (record { opening = record { kind = kinds.Open; text = codes "("; at = 0 }; items = cs; close = 0 }) ∙ h

formed-more : (a b : List Component) → all_formed a ≡ true → all_formed b ≡ true → all_formed (a ++ b) ≡ true
formed-more a b h k = list_all-append is_formed a b ∙ both h k

word-at : (cs : List Component) (t : List ℕ) (fits : Bool) → (fits ≡ true → all_formed cs ≡ true) → all_formed (if fits then cs else single kinds.Ident t ∷ []) ≡ true
word-at cs t true h = h refl
word-at cs t false h = both (formed-single kinds.Ident t) refl

formed-text : (t : List ℕ) → all_formed (text_components t) ≡ true
unfolding text_components
formed-text t =
    (let cs = (levels_of (words_in t)).here in
    word-at cs t (all_formed cs && is_text (text_of cs) t) (λ fits. (and_parts (all_formed cs) (is_text (text_of cs) t) fits).0))

formed-delim : (t : List ℕ) → is_formed (delim t) ≡ true
formed-delim t = formed-single kinds.Delim t

formed-relation : (r : Relation) → all_formed (relation_spelling r) ≡ true
formed-relation relations.Less = both (formed-delim (codes "<")) refl
formed-relation relations.LessEqual = both (formed-delim (codes "<")) (both (formed-delim (codes "=")) refl)
formed-relation relations.Greater = both (formed-delim (codes ">")) refl
formed-relation relations.GreaterEqual = both (formed-delim (codes ">")) (both (formed-delim (codes "=")) refl)
formed-relation relations.Equal = both (formed-delim (codes "=")) refl

formed-behind : (b : Bound) → all_formed (bound_behind b) ≡ true
formed-behind b = formed-more (relation_spelling b.relation) (text_components b.value) (formed-relation b.relation) (formed-text b.value)

formed-spaced : (dashes : Bool) → all_formed (if dashes then space ∷ [] else []) ≡ true
formed-spaced true = both (formed-single kinds.White (codes " ")) refl
formed-spaced false = refl

formed-before : (b : Bound) → all_formed (bound_before b) ≡ true
formed-before b = formed-more (text_components b.value) (space_behind b.value ++ relation_spelling (turned b.relation)) (formed-text b.value) (formed-more (space_behind b.value) (relation_spelling (turned b.relation)) (formed-spaced (ends_in_dashes b.value)) (formed-relation (turned b.relation)))

formed-named : (n : List ℕ) (b : Bound) → all_formed (ident n ∷ bound_behind b) ≡ true
formed-named n b = both (formed-single kinds.Ident (name_text n)) (formed-behind b)

formed-bounds : (n : List ℕ) (first : Bound) (second : Option Bound) → all_formed (bounds_spelling n first second) ≡ true
formed-bounds n first None = formed-named n first
formed-bounds n first (Some second) = formed-more (bound_before first) (ident n ∷ bound_behind second) (formed-before first) (formed-named n second)

formed-value : (value : Option (List ℕ)) → all_formed (feature_value value) ≡ true
formed-value None = refl
formed-value (Some value) = both (formed-single kinds.Colon (codes ":")) (formed-text value)

pub passes-formed : Passes is_formed
passes-formed = record {
  keyword = λ t. formed-single kinds.Ident t;
  space = formed-single kinds.White (codes " ");
  comma = formed-single kinds.Comma (codes ",");
  parens = λ cs h. formed-parens cs h;
  feature = λ f. formed-parens (ident f.name ∷ feature_value f.value) (both (formed-single kinds.Ident (name_text f.name)) (formed-value f.value));
  range = λ r. formed-parens (bounds_spelling r.name r.first r.second) (formed-bounds r.name r.first r.second);
}
