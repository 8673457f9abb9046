-- Media features that stand under a `not` (Media Queries 4, sections 2.2.1 and 2.5; Media Queries 3, section 4).
use Rattle.std.specs.Prelude.{ℕ, List, [], ◌∷◌, flat_map, Bool, true, false, not, Option, Some, None}
use Rattle.std.specs.List.{list_any}
use Rattle.media_spelling.specs.ConditionFold.{Steps, folded}
use Rattle.media_spelling.specs.declared.condition.Condition.{Condition}
use Rattle.media_spelling.specs.declared.condition.Prefix.{Prefix}
use Rattle.media_spelling.specs.declared.condition.Prefix.TheVariants as prefixes
use Rattle.media_spelling.specs.declared.condition.Query.{Query}
use Rattle.prop_table.specs.OldFeatures.{is_old_feature}

-- the names of the features in a condition, and of those among them that stand under a `not` of it
pub record Features : Type 0 where
  pub names : List (List ℕ)
  pub negated : List (List ℕ)

-- a feature by its name, alone or in a range, with nothing over it; under a `not` stands all that stands in the condition behind it
abbrev pub naming : Steps Features
naming = record {
  and_of = λ inner. record { names = flat_map (λ (f : Features). f.names) inner; negated = flat_map (λ (f : Features). f.negated) inner };
  or_of = λ inner. record { names = flat_map (λ (f : Features). f.names) inner; negated = flat_map (λ (f : Features). f.negated) inner };
  not_of = λ f. record { names = f.names; negated = f.names };
  feature = λ f. record { names = f.name ∷ []; negated = [] };
  range = λ r. record { names = r.name ∷ []; negated = [] };
}

-- those of a condition, at any depth
abbrev pub features_in : Condition → Features
features_in = folded naming

-- those of a query's condition, where it has one
abbrev pub option_features : Option Condition → Features
option_features None = record { names = []; negated = [] }
option_features (Some c) = features_in c

-- all of them where a `not` stands over the condition, and else those that stand under a `not` of it
abbrev pub under_not : Bool → Features → List (List ℕ)
under_not true f = f.names
under_not false f = f.negated

-- does the prefix negate the whole query?
abbrev pub is_not : Prefix → Bool
is_not prefixes.Not = true
is_not prefix = false

-- the names of the features of a query that stand under its prefix `not`, or under a `not` of its condition
abbrev pub query_negated : Query → List (List ℕ)
query_negated q = under_not (is_not q.prefix) (option_features q.condition)

-- is it a feature that older browsers do not know?
abbrev pub is_young : List ℕ → Bool
is_young name = not (is_old_feature name)

-- does such a feature stand under a `not` of the media query list?
abbrev pub asks_young : List Query → Bool
asks_young qs = list_any is_young (flat_map query_negated qs)
