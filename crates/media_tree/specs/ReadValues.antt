-- The values in media queries, and that each is read as what it is spelled with wherever it stands (Media Queries 4, section
-- 2.4; CSS Syntax 3, section 4).
use Rattle.std.specs.Prelude.{ℕ, List, [], ◌∷◌, ◌++◌, ◌≡◌, true, flat_map, codes, Option, Some, None, if◌then◌else◌}
use Rattle.std.specs.List.{AllByRecursion}
use Rattle.std.specs.Str.{is_utf8}
use Rattle.css_tokens.specs.Again.{bang, begins_none}
use Rattle.css_tokens.specs.Tokens.{ReadsTo}
use Rattle.css_tokens.specs.Trees.{words_all}
use Rattle.media_spelling.specs.declared.condition.Bound.{Bound}
use Rattle.media_spelling.specs.declared.condition.Condition.{Condition}
use Rattle.media_spelling.specs.declared.condition.Query.{Query}
use Rattle.media_spelling.specs.ConditionFold.{Steps, folded}
use Rattle.media_spelling.specs.Spelling.{ends_in_dashes}
use Rattle.media_spelling.specs.TextComponents.{text_components}

-- the value of a feature, where there is one
abbrev pub feature_values : Option (List ℕ) → List (List ℕ)
feature_values None = []
feature_values (Some value) = value ∷ []

-- the value of a second bound, where there is one
abbrev pub bound_values : Option Bound → List (List ℕ)
bound_values None = []
bound_values (Some b) = b.value ∷ []

-- the values in each kind of condition
abbrev pub values : Steps (List (List ℕ))
values = record {
  and_of = λ vs. flat_map (λ v. v) vs;
  or_of = λ vs. flat_map (λ v. v) vs;
  not_of = λ v. v;
  feature = λ f. feature_values f.value;
  range = λ r. r.first.value ∷ bound_values r.second;
}

-- the values in a condition
abbrev pub values_in : Condition → List (List ℕ)
values_in = folded values

-- the values in a condition, where there is one
abbrev pub values_behind : Option Condition → List (List ℕ)
values_behind None = []
values_behind (Some c) = values_in c

-- the values in a media query list
abbrev pub values_of : List Query → List (List ℕ)
values_of qs = flat_map (λ q. values_behind q.condition) qs

-- What may stand behind a value in parentheses: the closing one, a relation, or where the value ends in `--` a space before
-- the relation.
abbrev pub behind_value : List ℕ → List (List ℕ)
behind_value value = codes ")" ∷ (if ends_in_dashes value then codes " " ∷ [] else codes "<" ∷ codes ">" ∷ codes "=" ∷ [])

-- A text that stands as a value: it is in UTF-8, it begins with no `!`, with which a `<` before it might begin `<!--`, and before
-- whatever may stand behind a value it is read as the words of the components that it spells.
pub record StandsAsValue (value : List ℕ) : Type 0 where
  pub utf8 : is_utf8 value ≡ true
  pub begins : begins_none bang value ≡ true
  pub reads : AllByRecursion (λ next. (rest : List ℕ) → ReadsTo (value ++ (next ++ rest)) (words_all (text_components value)) (next ++ rest)) (behind_value value)

-- each value in the list stands so
abbrev pub ValuesStand : List Query → Type 0
ValuesStand qs = AllByRecursion StandsAsValue (values_of qs)
