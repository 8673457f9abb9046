-- A list that a target sheet can have is told by itself.
use Rattle.std.proofs.Common.{◌≡◌, ℕ, List, [], ◌∷◌, ◌++◌, true, map, flat_map, refl, ◌∙◌, ap, sym}
use Rattle.std.specs.Prelude.{Option, Some, None}
use Rattle.std.specs.List.{list_all}
use Rattle.std.proofs.lemmas.Bool.{false≢true}
use Rattle.std.proofs.lemmas.List.{map-append}
use Rattle.media_spelling.specs.declared.condition.Condition.{Condition, out-Condition}
use Rattle.media_spelling.specs.declared.condition.Condition as condition
use Rattle.media_spelling.specs.declared.condition.Condition.TheVariants.{outs-And, outs-Or, outs-Not, outs-Feature, outs-Range}
use Rattle.media_spelling.specs.declared.condition.Prefix.{Prefix}
use Rattle.media_spelling.specs.declared.condition.Prefix.TheVariants.{Plain, Only, Not}
use Rattle.media_spelling.specs.declared.condition.Query.{Query}
use Rattle.media_spelling.specs.ConditionInduction.{by_conditions}
use Rattle.media_clauses.specs.Lowered.{all_of, features_of, joined_features, layer_features, layer_row, plain_query}
use Rattle.target_check.specs.MediaTargets.{are_features, is_feature, is_target_condition, is_target_query, is_typed, layer_is_feature, layer_is_target}
use Rattle.media_clauses.proofs.BoolLemmas.{and-left, and-right}

-- a condition that is a feature, and the features that tell it
abbrev One : Condition → Type 0
One c = is_feature c ≡ true → map condition.Feature (layer_features (out-Condition c)) ≡ c ∷ []

one-feature : (c : Condition) → One c
one-feature = by_conditions One (record {
  and_of = λ cs hs e. absurd (false≢true (sym (ap layer_is_feature (outs-And cs)) ∙ e));
  or_of = λ cs hs e. absurd (false≢true (sym (ap layer_is_feature (outs-Or cs)) ∙ e));
  not_of = λ c h e. absurd (false≢true (sym (ap layer_is_feature (outs-Not c)) ∙ e));
  feature = λ f e. ap (λ v. map condition.Feature (layer_features v)) (outs-Feature f);
  range = λ r e. absurd (false≢true (sym (ap layer_is_feature (outs-Range r)) ∙ e));
})

each-feature : (cs : List Condition) → list_all is_feature cs ≡ true → map condition.Feature (flat_map (λ c. layer_features (out-Condition c)) cs) ≡ cs
each-feature [] e = refl
each-feature (c ∷ cs) e =
    map-append condition.Feature (layer_features (out-Condition c)) (flat_map (λ d. layer_features (out-Condition d)) cs)
    ∙ ap (λ front. front ++ map condition.Feature (flat_map (λ d. layer_features (out-Condition d)) cs)) (one-feature c (and-left (is_feature c) (list_all is_feature cs) e))
    ∙ ap (λ rest. c ∷ rest) (each-feature cs (and-right (is_feature c) (list_all is_feature cs) e))

-- features joined by `and`
joined-again : (cs : List Condition) → are_features cs ≡ true → all_of cs ≡ Some (condition.And cs)
joined-again [] e = absurd (false≢true e)
joined-again (c ∷ []) e = absurd (false≢true e)
joined-again (c ∷ d ∷ cs) e = refl

all-features : (cs : List Condition) → are_features cs ≡ true → list_all is_feature cs ≡ true
all-features [] e = refl
all-features (c ∷ []) e = absurd (false≢true e)
all-features (c ∷ d ∷ cs) e = e

-- the condition of a target query is told by itself
abbrev Same : Condition → Type 0
Same c = is_target_condition c ≡ true → joined_features (features_of (Some c)) ≡ Some c

same-condition : (c : Condition) → Same c
same-condition = by_conditions Same (record {
  and_of = λ cs hs e.
      let joined = sym (ap layer_is_target (outs-And cs)) ∙ e in
      ap (λ v. joined_features (layer_row v)) (outs-And cs) ∙ ap all_of (each-feature cs (all-features cs joined)) ∙ joined-again cs joined;
  or_of = λ cs hs e. absurd (false≢true (sym (ap layer_is_target (outs-Or cs)) ∙ e));
  not_of = λ c h e. absurd (false≢true (sym (ap layer_is_target (outs-Not c)) ∙ e));
  feature = λ f e. ap (λ v. joined_features (layer_row v)) (outs-Feature f);
  range = λ r e. absurd (false≢true (sym (ap layer_is_target (outs-Range r)) ∙ e));
})

same-typed : (p : Prefix) (media : Option (List ℕ)) (c : Option Condition) → is_typed is_target_condition p media c ≡ true → joined_features (features_of c) ≡ c
same-typed p (Some media) None e = refl
same-typed p (Some media) (Some c) e = same-condition c e
same-typed Plain None (Some c) e = same-condition c e
same-typed Only None (Some c) e = absurd (false≢true e)
same-typed Not None (Some c) e = absurd (false≢true e)
same-typed Plain None None e = absurd (false≢true e)
same-typed Only None None e = absurd (false≢true e)
same-typed Not None None e = absurd (false≢true e)

same-query : (q : Query) → is_target_query q ≡ true → plain_query q ≡ q
same-query q e = ap (λ c. record { prefix = q.prefix; media = q.media; condition = c }) (same-typed q.prefix q.media q.condition e)

pub same-list : (qs : List Query) → list_all is_target_query qs ≡ true → map plain_query qs ≡ qs
same-list [] e = refl
same-list (q ∷ qs) e =
    ap (λ r. r ∷ map plain_query qs) (same-query q (and-left (is_target_query q) (list_all is_target_query qs) e))
    ∙ ap (λ rest. q ∷ rest) (same-list qs (and-right (is_target_query q) (list_all is_target_query qs) e))

pub ruleset targets_are_plain = (same-list)
