-- Whether media queries, supports conditions and the conditions of groups hold in a browser and on its device (Media Queries 4,
-- sections 2 and 3; Conditional Rules 3, sections 2 and 6).
use Rattle.std.specs.Prelude.{ℕ, List, [], ◌∷◌, Bool, true, false, not, ◌&&◌, ◌||◌, ℤ, pos, int_lt, int_le, nat_eq, codes, drop, find, Option, Some, None, if◌then◌else◌}
use Rattle.std.specs.List.{list_all, list_any, starts_with}
use Rattle.std.specs.Option.{option_map_or}
use Rattle.std.specs.Ordering.{int_eq}
use Rattle.css_tokens.specs.declared.component.Component.{Component}
use Rattle.css_tokens.specs.Trees.{is_text}
use Rattle.media_spelling.specs.declared.condition.Bound.{Bound}
use Rattle.media_spelling.specs.declared.condition.Condition.{Condition}
use Rattle.media_spelling.specs.declared.condition.Feature.{Feature}
use Rattle.media_spelling.specs.declared.condition.Prefix.{Prefix}
use Rattle.media_spelling.specs.declared.condition.Prefix.TheVariants as prefixes
use Rattle.media_spelling.specs.declared.condition.Query.{Query}
use Rattle.media_spelling.specs.declared.condition.Range.{Range}
use Rattle.media_spelling.specs.declared.condition.Relation.{Relation}
use Rattle.media_spelling.specs.declared.condition.Relation.TheVariants as relations
use Rattle.media_spelling.specs.declared.supports.Supports.{Supports}
use Rattle.media_spelling.specs.Components.{colon, ident, text_of}
use Rattle.media_spelling.specs.ConditionFold as condition_fold
use Rattle.prop_table.specs.OldFeatures.{is_range_feature}
use Rattle.media_spelling.specs.Spelling.{feature_value, value_spelling}
use Rattle.media_spelling.specs.SupportsFold as supports_fold
use Rattle.sheet_types.specs.declared.sheet.GroupCondition.{GroupCondition}
use Rattle.sheet_types.specs.declared.sheet.GroupCondition.TheVariants as groups
use Rattle.cascade_spec.specs.declared.environment.Environment.{Environment}

-- Range features.

-- the number that is listed for a name, the first where there are several, and 0 where there is none
abbrev pub number_of : List (List ℕ × ℤ) → List ℕ → ℤ
number_of rows name = option_map_or (λ (row : List ℕ × ℤ). row.1) (find (λ (row : List ℕ × ℤ). is_text row.0 name) rows) (pos 0)

-- does the one number stand so to the other?
abbrev pub compares : Relation → ℤ → ℤ → Bool
compares relations.Less m v = int_lt m v
compares relations.LessEqual m v = int_le m v
compares relations.Greater m v = int_lt v m
compares relations.GreaterEqual m v = int_le v m
compares relations.Equal m v = int_eq m v

-- does the number of the feature stand so to that of the value?
abbrev pub bound_holds : Environment → List ℕ → Bound → Bool
bound_holds env name b = compares b.relation (number_of env.numbers name) (number_of env.values b.value)

-- a range holds where each of its bounds does
abbrev pub range_holds : Environment → Range → Bool
range_holds env r = bound_holds env r.name r.first && option_map_or (bound_holds env r.name) r.second true

-- Features in the plain and the boolean context.

-- a feature that takes a range, and how its number is to stand to a value's
pub record Compared : Type 0 where
  pub name : List ℕ
  pub relation : Relation

-- What a name before a colon compares: the name of a feature that takes a range, or one with `min-` or `max-` before it (Media Queries 4, section 2.4.4).
abbrev pub compared : List ℕ → Option Compared
compared name =
    if is_range_feature name then Some (record { name = name; relation = relations.Equal })
    else (if starts_with nat_eq name (codes "min-") && is_range_feature (drop 4 name) then Some (record { name = drop 4 name; relation = relations.GreaterEqual })
    else (if starts_with nat_eq name (codes "max-") && is_range_feature (drop 4 name) then Some (record { name = drop 4 name; relation = relations.LessEqual })
    else None))

-- is the feature listed, as it prints without its parentheses?
abbrev pub is_listed : Environment → Feature → Bool
is_listed env f = list_any (is_text (text_of (ident f.name ∷ feature_value f.value))) env.features

-- a feature with this value holds by its number, where it has one, and else where it is listed
abbrev pub valued_holds : Environment → Feature → List ℕ → Option Compared → Bool
valued_holds env f value (Some c) = bound_holds env c.name (record { relation = c.relation; value = value })
valued_holds env f value None = is_listed env f

-- does it hold with this value, or without one?
abbrev pub feature_with : Environment → Feature → Option (List ℕ) → Bool
feature_with env f None = is_listed env f
feature_with env f (Some value) = valued_holds env f value (compared f.name)

-- does the feature hold?
abbrev pub feature_holds : Environment → Feature → Bool
feature_holds env f = feature_with env f f.value

-- Queries.

-- Whether each kind of condition holds: `and` where all do, `or` where one does, `not` where what is behind it does not.
abbrev pub condition_truth : Environment → condition_fold.Steps Bool
condition_truth env = record {
  and_of = λ bs. list_all (λ b. b) bs;
  or_of = λ bs. list_any (λ b. b) bs;
  not_of = λ b. not b;
  feature = feature_holds env;
  range = range_holds env;
}

-- does the condition hold?
abbrev pub condition_holds : Environment → Condition → Bool
condition_holds env = condition_fold.folded (condition_truth env)

-- `all` holds everywhere, another media type on its own media
abbrev pub type_holds : Environment → List ℕ → Bool
type_holds env media = is_text media (codes "all") || is_text media env.media

-- `not` turns the whole query round, `only` changes nothing
abbrev pub prefixed : Prefix → Bool → Bool
prefixed prefixes.Plain b = b
prefixed prefixes.Only b = b
prefixed prefixes.Not b = not b

-- a query holds where its media type and its condition do
abbrev pub query_holds : Environment → Query → Bool
query_holds env q = prefixed q.prefix (option_map_or (type_holds env) q.media true && option_map_or (condition_holds env) q.condition true)

-- a list holds where one of its queries does; the empty one everywhere
abbrev pub queries_hold : Environment → List Query → Bool
queries_hold env [] = true
queries_hold env (q ∷ qs) = list_any (query_holds env) (q ∷ qs)

-- Supports conditions.

-- is the declaration listed, as it prints without its parentheses?
abbrev pub is_supported : Environment → List ℕ → List Component → Bool
is_supported env name value = list_any (is_text (text_of (ident name ∷ colon ∷ value_spelling value))) env.supports

-- Whether each kind of supports condition holds. A function holds nowhere.
abbrev pub supports_truth : Environment → supports_fold.Steps Bool
supports_truth env = record {
  and_of = λ bs. list_all (λ b. b) bs;
  or_of = λ bs. list_any (λ b. b) bs;
  not_of = λ b. not b;
  declared = is_supported env;
  function = λ at. false;
}

-- does the supports condition hold?
abbrev pub supports_hold : Environment → Supports → Bool
supports_hold env = supports_fold.folded (supports_truth env)

-- Groups.

-- does the condition of a group hold?
abbrev pub group_holds : Environment → GroupCondition → Bool
group_holds env (groups.Media queries) = queries_hold env queries
group_holds env (groups.Supports condition) = supports_hold env condition

-- does each of these conditions hold?
abbrev pub all_hold : Environment → List GroupCondition → Bool
all_hold env conditions = list_all (group_holds env) conditions
