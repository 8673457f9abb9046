-- Which media queries have a spelling that is read as them (Media Queries 4, section 3).
use Rattle.std.specs.Prelude.{ℕ, List, [], ◌∷◌, Bool, true, false, not, ◌||◌, ◌&&◌, codes, Option, Some, None}
use Rattle.std.specs.List.{list_all, list_any}
use Rattle.css_tokens.specs.declared.component.Component.{Component, out-Component}
use Rattle.css_tokens.specs.declared.component.Component.TheOpen.{Component-F, Single, Block}
use Rattle.css_tokens.specs.Names.{is_name}
use Rattle.css_tokens.specs.Trees.{is_text}
use Rattle.media_spelling.specs.declared.condition.Bound.{Bound}
use Rattle.media_spelling.specs.declared.condition.Condition.{Condition}
use Rattle.media_spelling.specs.declared.condition.Feature.{Feature}
use Rattle.media_spelling.specs.declared.condition.Prefix.{Prefix}
use Rattle.media_spelling.specs.declared.condition.Prefix.TheVariants as prefixes
use Rattle.media_spelling.specs.declared.condition.Query.{Query}
use Rattle.media_spelling.specs.declared.condition.Range.{Range}
use Rattle.media_spelling.specs.ConditionFold.{Steps, folded}
use Rattle.media_tree.specs.Features.{is_same_way, is_separator, value_in}
use Rattle.media_tree.specs.Marks.{Layer, lowered}
use Rattle.media_tree.specs.Queries.{is_parens}
use Rattle.prop_table.specs.OldFeatures.{is_range_feature}
use Rattle.media_spelling.specs.Spelling.{turned}
use Rattle.media_spelling.specs.TextComponents.{text_components}

-- a name in lower case
abbrev pub is_lower_name : List ℕ → Bool
is_lower_name name = is_name name && is_text (lowered name) name

-- is it a block in parentheses, laid open?
abbrev pub layer_is_parens : Layer → Bool
layer_is_parens (Single p) = false
layer_is_parens (Block b) = is_parens b

-- neither a separator nor a block in parentheses, which no value has outside a Function
abbrev pub is_value_part : Component → Bool
is_value_part c = not (is_separator c) && not (layer_is_parens (out-Component c))

-- is it this text?
abbrev pub is_some_text : List ℕ → Option (List ℕ) → Bool
is_some_text text None = false
is_some_text text (Some other) = is_text other text

-- do the components that the text spells make a value of this text?
abbrev pub is_readable_value : List ℕ → Bool
is_readable_value value = list_all is_value_part (text_components value) && is_some_text value (value_in (text_components value))

-- no value, or one that is read
abbrev pub is_readable_option : Option (List ℕ) → Bool
is_readable_option None = true
is_readable_option (Some value) = is_readable_value value

-- a feature in the plain or the boolean context
abbrev pub is_readable_feature : Feature → Bool
is_readable_feature f = is_lower_name f.name && is_readable_option f.value

-- one bound, or two that go the same way
abbrev pub are_readable_bounds : Bound → Option Bound → Bool
are_readable_bounds first None = is_readable_value first.value
are_readable_bounds first (Some second) = is_readable_value first.value && (is_readable_value second.value && is_same_way (turned first.relation) second.relation)

-- a feature in the range context
abbrev pub is_readable_range : Range → Bool
is_readable_range r = is_range_feature r.name && (is_lower_name r.name && are_readable_bounds r.first r.second)

-- are there two or more?
abbrev pub has_two : List Bool → Bool
has_two [] = false
has_two (b ∷ []) = false
has_two (b ∷ c ∷ bs) = true

-- Has each kind of condition a spelling that is read as it?
abbrev pub readable : Steps Bool
readable = record {
  and_of = λ bs. has_two bs && list_all (λ b. b) bs;
  or_of = λ bs. has_two bs && list_all (λ b. b) bs;
  not_of = λ b. b;
  feature = is_readable_feature;
  range = is_readable_range;
}

-- a condition
abbrev pub is_readable_condition : Condition → Bool
is_readable_condition = folded readable

-- the names that are no media types
abbrev pub barred_types : List (List ℕ)
barred_types = codes "not" ∷ codes "only" ∷ codes "and" ∷ codes "or" ∷ codes "layer" ∷ []

-- a media type
abbrev pub is_readable_type : List ℕ → Bool
is_readable_type name = is_lower_name name && not (list_any (is_text name) barred_types)

-- no condition, or one that is read
abbrev pub is_readable_behind : Option Condition → Bool
is_readable_behind None = true
is_readable_behind (Some c) = is_readable_condition c

-- A query without a media type has no prefix and has a condition.
abbrev pub is_readable_typed : Prefix → Option (List ℕ) → Option Condition → Bool
is_readable_typed prefix (Some media) c = is_readable_type media && is_readable_behind c
is_readable_typed prefixes.Plain None (Some c) = is_readable_condition c
is_readable_typed prefix None c = false

-- a query
abbrev pub is_readable_query : Query → Bool
is_readable_query q = is_readable_typed q.prefix q.media q.condition

-- each query of a list
abbrev pub are_readable_queries : List Query → Bool
are_readable_queries qs = list_all is_readable_query qs
