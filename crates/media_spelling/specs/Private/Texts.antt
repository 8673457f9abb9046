-- The texts of conditions and queries, as they are written one after another.
use Rattle.std.specs.Prelude.{ℕ, List, [], ◌∷◌, ◌++◌, Bool, true, false, flat_map, codes, Option, Some, None}
use Rattle.css_tokens.specs.declared.component.Component.{Component}
use Rattle.css_tokens.specs.NameText.{name_text}
use Rattle.css_tokens.specs.Values.{value_text}
use Rattle.media_spelling.specs.declared.condition.Bound.{Bound}
use Rattle.media_spelling.specs.declared.condition.Condition.{Condition}
use Rattle.media_spelling.specs.declared.condition.Feature.{Feature}
use Rattle.media_spelling.specs.declared.condition.Prefix.{Prefix}
use Rattle.media_spelling.specs.declared.condition.Query.{Query}
use Rattle.media_spelling.specs.declared.condition.Range.{Range}
use Rattle.media_spelling.specs.declared.condition.Relation.{Relation}
use Rattle.media_spelling.specs.declared.supports.Supports.{Supports}
use Rattle.media_spelling.specs.Components.{text_of}
use Rattle.media_spelling.specs.Spelling.{declaration_spelling, ends_in_dashes, feature_spelling, prefix_spelling, query_spelling, range_spelling, relation_spelling, spelled_condition, spelled_supports, turned, typed_spelling}

-- the text of a condition alone
abbrev pub condition_text : Condition → List ℕ
condition_text c = text_of (spelled_condition c).alone

-- the text of a condition inside another one
abbrev pub inside_text : Condition → List ℕ
inside_text c = text_of (spelled_condition c).inside

-- the text of a condition behind a media type
abbrev pub behind_text : Condition → List ℕ
behind_text c = text_of (spelled_condition c).behind

-- the text of a supports condition inside another one
abbrev pub nested_text : Supports → List ℕ
nested_text s = text_of (spelled_supports s).inside

-- the text of a query
abbrev pub query_text : Query → List ℕ
query_text q = text_of (query_spelling q)

-- the text of what stands in a row behind others, each behind this text
abbrev pub more_text : {A : Type 0} → List ℕ → (A → List ℕ) → List A → List ℕ
more_text between text xs = flat_map (λ x. between ++ text x) xs

-- the text of a row, with this text between two of them
abbrev pub row_text : {A : Type 0} → List ℕ → (A → List ℕ) → List A → List ℕ
row_text between text [] = []
row_text between text (x ∷ xs) = text x ++ more_text between text xs

-- this text, where it is wanted
abbrev pub wanted_text : Bool → List ℕ → List ℕ
wanted_text true text = text
wanted_text false text = []

-- what is left of a row, of which the text stands before each, or before each but the first
abbrev pub left_text : {A : Type 0} → Bool → List ℕ → (A → List ℕ) → List A → List ℕ
left_text true between text xs = more_text between text xs
left_text false between text xs = row_text between text xs

-- the text of a relation
abbrev pub relation_text : Relation → List ℕ
relation_text r = text_of (relation_spelling r)

-- the text of a bound behind the name
abbrev pub bound_text : Bound → List ℕ
bound_text b = relation_text b.relation ++ b.value

-- the relation behind a text, from which a space parts it where the text ends in `--`
abbrev pub parted_text : Bool → Relation → List ℕ
parted_text dashes r = wanted_text dashes (codes " ") ++ relation_text r

-- the text of a bound before the name
abbrev pub front_text : Bound → List ℕ
front_text b = b.value ++ parted_text (ends_in_dashes b.value) (turned b.relation)

-- the value of a feature and the closing parenthesis
abbrev pub value_end_text : Option (List ℕ) → List ℕ
value_end_text None = codes ")"
value_end_text (Some value) = (codes ":" ++ value) ++ codes ")"

-- the text of a feature
abbrev pub feature_text : Feature → List ℕ
feature_text f = text_of (feature_spelling f ∷ [])

-- the text of a range
abbrev pub range_text : Range → List ℕ
range_text r = text_of (range_spelling r ∷ [])

-- the text of a name with bounds in parentheses
abbrev pub bounds_text : List ℕ → Bound → Option Bound → List ℕ
bounds_text name first None = (codes "(" ++ name_text name) ++ (bound_text first ++ codes ")")
bounds_text name first (Some second) = (codes "(" ++ front_text first) ++ (name_text name ++ (bound_text second ++ codes ")"))

-- the text of what stands before a media type
abbrev pub prefix_text : Prefix → List ℕ
prefix_text p = text_of (prefix_spelling p)

-- the text of a media type, a condition, or both
abbrev pub typed_text : Option (List ℕ) → Option Condition → List ℕ
typed_text media c = text_of (typed_spelling media c)

-- the text of a supports condition alone
abbrev pub alone_text : Supports → List ℕ
alone_text s = text_of (spelled_supports s).alone

-- the text of what a declaration in parentheses is spelled with
abbrev pub declaration_text : List ℕ → List Component → List ℕ
declaration_text name value = text_of (declaration_spelling name value ∷ [])

-- the text of a declaration in parentheses
abbrev pub declared_text : List ℕ → List Component → List ℕ
declared_text name value = (codes "(" ++ name_text name) ++ (codes ":" ++ (value_text value ++ codes ")"))
