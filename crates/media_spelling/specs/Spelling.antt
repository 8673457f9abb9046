-- How media queries and supports conditions are spelled: the component values that each is written with (Media Queries 4,
-- section 3; Conditional Rules 3, section 6; CSSOM, section 5.1; this project's own choice of white space and
-- parentheses). Texts and words are derived from these.
use Rattle.std.specs.Prelude.{ℕ, List, [], ◌∷◌, ◌++◌, map, flat_map, Bool, true, false, codes, nat_eq, Option, Some, None, if◌then◌else◌}
use Rattle.std.specs.List.{ends_with}
use Rattle.css_tokens.specs.declared.kind.Kind.TheVariants as kinds
use Rattle.css_tokens.specs.declared.component.Component.{Component}
use Rattle.css_tokens.specs.Trees.{all_formed}
use Rattle.css_tokens.specs.ValueAgain.{value_again}
use Rattle.css_tokens.specs.Values.{value_text}
use Rattle.media_spelling.specs.declared.condition.Bound.{Bound}
use Rattle.media_spelling.specs.declared.condition.Condition.{Condition}
use Rattle.media_spelling.specs.declared.condition.Feature.{Feature}
use Rattle.media_spelling.specs.declared.condition.Prefix.{Prefix}
use Rattle.media_spelling.specs.declared.condition.Prefix.TheVariants as prefixes
use Rattle.media_spelling.specs.declared.condition.Query.{Query}
use Rattle.media_spelling.specs.declared.condition.Range.{Range}
use Rattle.media_spelling.specs.declared.condition.Relation.{Relation}
use Rattle.media_spelling.specs.declared.condition.Relation.TheVariants as relations
use Rattle.media_spelling.specs.declared.supports.Supports.{Supports}
use Rattle.media_spelling.specs.Components.{block, colon, comma, delim, ident, keyword, parens, single, space, text_of}
use Rattle.media_spelling.specs.TextComponents.{text_components}
use Rattle.media_spelling.specs.ConditionFold as condition_fold
use Rattle.media_spelling.specs.SupportsFold as supports_fold

-- Conditions, from how the conditions in them are spelled.

-- how a condition is spelled alone, inside another condition, and behind a media type and `and`
pub record Spelled : Type 0 where
  pub alone : List Component
  pub inside : List Component
  pub behind : List Component

-- a condition that stands in parentheses wherever it stands
abbrev pub enclosed : Component → Spelled
enclosed c = record { alone = c ∷ []; inside = c ∷ []; behind = c ∷ [] }

-- a compound condition: it stands in parentheses inside another one
abbrev pub compound : List Component → Spelled
compound cs = record { alone = cs; inside = parens cs ∷ []; behind = cs }

-- one that stands in parentheses behind a media type too
abbrev pub alternative : List Component → Spelled
alternative cs = record { alone = cs; inside = parens cs ∷ []; behind = parens cs ∷ [] }

-- further conditions, each behind this keyword
abbrev pub further : List ℕ → List Spelled → List Component
further joint ss = flat_map (λ s. space ∷ keyword joint ∷ space ∷ s.inside) ss

-- conditions with this keyword between them
abbrev pub joined : List ℕ → List Spelled → List Component
joined joint [] = []
joined joint (s ∷ ss) = s.inside ++ further joint ss

-- a condition behind `not`
abbrev pub negated : Spelled → List Component
negated s = keyword (codes "not") ∷ space ∷ s.inside

-- Media features.

-- does the text end in `--`?
abbrev pub ends_in_dashes : List ℕ → Bool
ends_in_dashes text = ends_with nat_eq text (codes "--")

-- one space behind a text that ends in `--`, since `-->` would be read as one token
abbrev pub space_behind : List ℕ → List Component
space_behind text = if ends_in_dashes text then space ∷ [] else []

-- the delimiters of a relation
abbrev pub relation_spelling : Relation → List Component
relation_spelling relations.Less = delim (codes "<") ∷ []
relation_spelling relations.LessEqual = delim (codes "<") ∷ delim (codes "=") ∷ []
relation_spelling relations.Greater = delim (codes ">") ∷ []
relation_spelling relations.GreaterEqual = delim (codes ">") ∷ delim (codes "=") ∷ []
relation_spelling relations.Equal = delim (codes "=") ∷ []

-- the relation as seen from the other side
abbrev pub turned : Relation → Relation
turned relations.Less = relations.Greater
turned relations.LessEqual = relations.GreaterEqual
turned relations.Greater = relations.Less
turned relations.GreaterEqual = relations.LessEqual
turned relations.Equal = relations.Equal

-- a bound behind the name: the relation, and the value
abbrev pub bound_behind : Bound → List Component
bound_behind b = relation_spelling b.relation ++ text_components b.value

-- a bound before the name: the value, and the relation from there
abbrev pub bound_before : Bound → List Component
bound_before b = text_components b.value ++ (space_behind b.value ++ relation_spelling (turned b.relation))

-- the value behind a colon; nothing where there is none
abbrev pub feature_value : Option (List ℕ) → List Component
feature_value None = []
feature_value (Some value) = colon ∷ text_components value

-- a feature in the plain or the boolean context
abbrev pub feature_spelling : Feature → Component
feature_spelling f = parens (ident f.name ∷ feature_value f.value)

-- a name with one bound behind it, or between two
abbrev pub bounds_spelling : List ℕ → Bound → Option Bound → List Component
bounds_spelling name first None = ident name ∷ bound_behind first
bounds_spelling name first (Some second) = bound_before first ++ ident name ∷ bound_behind second

-- a feature in the range context
abbrev pub range_spelling : Range → Component
range_spelling r = parens (bounds_spelling r.name r.first r.second)

-- How each kind of media condition is spelled.
abbrev pub spelling : condition_fold.Steps Spelled
spelling = record {
  and_of = λ ss. compound (joined (codes "and") ss);
  or_of = λ ss. alternative (joined (codes "or") ss);
  not_of = λ s. compound (negated s);
  feature = λ f. enclosed (feature_spelling f);
  range = λ r. enclosed (range_spelling r);
}

-- how a condition is spelled
abbrev pub spelled_condition : Condition → Spelled
spelled_condition = condition_fold.folded spelling

-- the components of a condition
abbrev pub condition_spelling : Condition → List Component
condition_spelling c = (spelled_condition c).alone

-- Media queries.

-- what stands before the media type
abbrev pub prefix_spelling : Prefix → List Component
prefix_spelling prefixes.Plain = []
prefix_spelling prefixes.Not = keyword (codes "not") ∷ space ∷ []
prefix_spelling prefixes.Only = keyword (codes "only") ∷ space ∷ []

-- a media type, a condition, or both with `and` between them
abbrev pub typed_spelling : Option (List ℕ) → Option Condition → List Component
typed_spelling None None = []
typed_spelling None (Some c) = condition_spelling c
typed_spelling (Some media) None = ident media ∷ []
typed_spelling (Some media) (Some c) = ident media ∷ space ∷ keyword (codes "and") ∷ space ∷ (spelled_condition c).behind

-- the components of a query
abbrev pub query_spelling : Query → List Component
query_spelling q = prefix_spelling q.prefix ++ typed_spelling q.media q.condition

-- further queries, each behind a comma
abbrev pub more_spelling : List (List Component) → List Component
more_spelling qs = flat_map (λ q. comma ∷ q) qs

-- queries with commas between them
abbrev pub commas_between : List (List Component) → List Component
commas_between [] = []
commas_between (q ∷ qs) = q ++ more_spelling qs

-- the components of a media query list
abbrev pub queries_spelling : List Query → List Component
queries_spelling qs = commas_between (map query_spelling qs)

-- Supports conditions.

-- The components that a value prints as. Those that are not well formed, which no reading gives, are taken as one word.
abbrev pub value_spelling : List Component → List Component
value_spelling value = if all_formed value then value_again value else single kinds.Ident (value_text value) ∷ []

-- a declaration in parentheses
abbrev pub declaration_spelling : List ℕ → List Component → Component
declaration_spelling name value = parens (ident name ∷ colon ∷ value_spelling value)

-- How each kind of supports condition is spelled. Of a function its place alone is kept.
abbrev pub supports_steps : supports_fold.Steps Spelled
supports_steps = record {
  and_of = λ ss. compound (joined (codes "and") ss);
  or_of = λ ss. compound (joined (codes "or") ss);
  not_of = λ s. compound (negated s);
  declared = λ name value. enclosed (declaration_spelling name value);
  function = λ at. enclosed (block kinds.Function (codes "f(") []);
}

-- how a supports condition is spelled
abbrev pub spelled_supports : Supports → Spelled
spelled_supports = supports_fold.folded supports_steps

-- the components of a supports condition
abbrev pub supports_spelling : Supports → List Component
supports_spelling s = (spelled_supports s).alone

-- Texts.

-- the text of a media query list
abbrev pub queries_text : List Query → List ℕ
queries_text qs = text_of (queries_spelling qs)

-- the text of a supports condition
abbrev pub supports_text : Supports → List ℕ
supports_text s = text_of (supports_spelling s)
