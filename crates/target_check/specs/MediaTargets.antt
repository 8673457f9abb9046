-- Which media lists a target sheet has (Media Queries 3, section 2): each query is a prefix, a media type and features joined by
-- `and`, without ranges, `or` and `not`.
use Rattle.std.specs.Prelude.{ℕ, List, [], ◌∷◌, Bool, true, false, Option, Some, None}
use Rattle.std.specs.List.{list_all}
use Rattle.media_spelling.specs.declared.condition.Condition.{Condition, out-Condition}
use Rattle.media_spelling.specs.declared.condition.Condition.TheOpen.{Condition-F, And, Feature}
use Rattle.media_spelling.specs.declared.condition.Prefix.{Prefix}
use Rattle.media_spelling.specs.declared.condition.Prefix.TheVariants as prefixes
use Rattle.media_spelling.specs.declared.condition.Query.{Query}

-- a condition, laid open
abbrev pub Layer : Type 0
Layer = Condition-F Condition

-- is it a feature in the plain or the boolean context?
abbrev pub layer_is_feature : Layer → Bool
layer_is_feature (Feature f) = true
layer_is_feature c = false

abbrev pub is_feature : Condition → Bool
is_feature c = layer_is_feature (out-Condition c)

-- are there two or more, each of them a feature?
abbrev pub are_features : List Condition → Bool
are_features [] = false
are_features (c ∷ []) = false
are_features (c ∷ d ∷ cs) = list_all is_feature (c ∷ d ∷ cs)

-- is it a feature, or features joined by `and`?
abbrev pub layer_is_target : Layer → Bool
layer_is_target (And cs) = are_features cs
layer_is_target c = layer_is_feature c

abbrev pub is_target_condition : Condition → Bool
is_target_condition c = layer_is_target (out-Condition c)

-- Does the condition pass this test, where there is one? A query without a media type has no prefix and has a condition.
abbrev pub is_typed : (Condition → Bool) → Prefix → Option (List ℕ) → Option Condition → Bool
is_typed test prefix (Some media) None = true
is_typed test prefix (Some media) (Some c) = test c
is_typed test prefixes.Plain None (Some c) = test c
is_typed test prefix None c = false

-- a query of a target sheet
abbrev pub is_target_query : Query → Bool
is_target_query q = is_typed is_target_condition q.prefix q.media q.condition

-- a media list of a target sheet: it is not empty
abbrev pub is_target_list : List Query → Bool
is_target_list [] = false
is_target_list (q ∷ qs) = list_all is_target_query (q ∷ qs)
