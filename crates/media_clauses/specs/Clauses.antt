-- The clauses of a media list (this project's own): a clause is literals of which one is to hold, and the list holds where each
-- of its clauses does. Ranges are told by features in the plain context (Media Queries 4, section 2.4.4).
use Rattle.std.specs.Prelude.{ℕ, List, [], ◌∷◌, ◌++◌, map, flat_map, fold, Bool, true, false, not, codes, Option, Some, None, if◌then◌else◌}
use Rattle.css_tokens.specs.Trees.{is_text}
use Rattle.media_spelling.specs.declared.condition.Bound.{Bound}
use Rattle.media_spelling.specs.declared.condition.Condition.{Condition}
use Rattle.media_spelling.specs.declared.condition.Feature.{Feature}
use Rattle.media_spelling.specs.declared.condition.Prefix.{Prefix}
use Rattle.media_spelling.specs.declared.condition.Prefix.TheVariants as prefixes
use Rattle.media_spelling.specs.declared.condition.Query.{Query}
use Rattle.media_spelling.specs.declared.condition.Range.{Range}
use Rattle.media_spelling.specs.declared.condition.Relation.{Relation}
use Rattle.media_spelling.specs.declared.condition.Relation.TheVariants as relations
use Rattle.media_spelling.specs.ConditionFold.{Steps, folded}
use Rattle.media_clauses.specs.declared.clause.Clause.{Clause}
use Rattle.media_clauses.specs.declared.clause.Fact.{Fact}
use Rattle.media_clauses.specs.declared.clause.Fact.TheVariants as facts
use Rattle.media_clauses.specs.declared.clause.Literal.{Literal}

-- Clauses.

-- a fact that is to hold, and one that is not to
abbrev pub positive : Fact → Literal
positive fact = record { positive = true; fact = fact }

abbrev pub negative : Fact → Literal
negative fact = record { positive = false; fact = fact }

-- the literal that holds where this one does not
abbrev pub turned : Literal → Literal
turned l = record { positive = not l.positive; fact = l.fact }

-- the clause of one literal
abbrev pub alone : Literal → Clause
alone l = record { literals = l ∷ [] }

-- the clause without literals, which holds nowhere
abbrev pub never : Clause
never = record { literals = [] }

-- the literals of both
abbrev pub joined : Clause → Clause → Clause
joined p q = record { literals = p.literals ++ q.literals }

-- the clauses that hold where the one list does or the other
abbrev pub product : List Clause → List Clause → List Clause
product ps qs = flat_map (λ p. map (joined p) qs) ps

-- the clauses that hold where one of several lists does
abbrev pub products : List (List Clause) → List Clause
products lists = fold product (never ∷ []) lists

-- Ranges.

-- The name of a feature in the plain context begins so. `f>v` holds where `max-f:v` does not, and `f<v` where `min-f:v` does not.
abbrev pub range_prefix : Relation → List ℕ
range_prefix relations.GreaterEqual = codes "min-"
range_prefix relations.LessEqual = codes "max-"
range_prefix relations.Equal = []
range_prefix relations.Greater = codes "max-"
range_prefix relations.Less = codes "min-"

-- does it leave out the value itself?
abbrev pub is_strict : Relation → Bool
is_strict relations.Greater = true
is_strict relations.Less = true
is_strict r = false

-- the feature in the plain context that a bound is told by
abbrev pub bound_feature : List ℕ → Bound → Feature
bound_feature name b = record { name = range_prefix b.relation ++ name; value = Some b.value }

-- a bound as a literal
abbrev pub bound_literal : List ℕ → Bound → Literal
bound_literal name b = record { positive = not (is_strict b.relation); fact = facts.Feature (bound_feature name b) }

-- the bounds of a range, the left one first
abbrev pub bounds : Bound → Option Bound → List Bound
bounds first None = first ∷ []
bounds first (Some second) = first ∷ second ∷ []

-- the literals of a range, of which each is to hold
abbrev pub range_literals : Range → List Literal
range_literals r = map (bound_literal r.name) (bounds r.first r.second)

-- Conditions.

-- the clauses of a condition, and those of what is its negation
pub record Sides : Type 0 where
  pub pos : List Clause
  pub neg : List Clause

-- where it is true the clauses of a condition, and else those of its negation
abbrev pub side : Bool → Sides → List Clause
side true s = s.pos
side false s = s.neg

-- both sides of each kind of condition
abbrev pub clausal : Steps Sides
clausal = record {
  and_of = λ cs. record { pos = flat_map (side true) cs; neg = products (map (side false) cs) };
  or_of = λ cs. record { pos = products (map (side true) cs); neg = flat_map (side false) cs };
  not_of = λ c. record { pos = c.neg; neg = c.pos };
  feature = λ f. record { pos = alone (positive (facts.Feature f)) ∷ []; neg = alone (negative (facts.Feature f)) ∷ [] };
  range = λ r. record { pos = map alone (range_literals r); neg = record { literals = map turned (range_literals r) } ∷ [] };
}

-- both sides of a condition
abbrev pub sides_of : Condition → Sides
sides_of = folded clausal

-- Queries and lists.

-- what a query without a condition asks of one: nothing
abbrev pub option_sides : Option Condition → Sides
option_sides None = record { pos = []; neg = never ∷ [] }
option_sides (Some c) = sides_of c

-- what a query asks of the media type: nothing of `all`
abbrev pub type_facts : Option (List ℕ) → List Fact
type_facts None = []
type_facts (Some media) = if is_text media (codes "all") then [] else facts.Media media ∷ []

-- the clauses of a query with this prefix
abbrev pub prefixed_clauses : Prefix → List Fact → Sides → List Clause
prefixed_clauses prefixes.Not types condition = product (record { literals = map negative types } ∷ []) condition.neg
prefixed_clauses prefix types condition = map (λ t. alone (positive t)) types ++ condition.pos

-- the clauses of a query
abbrev pub query_clauses : Query → List Clause
query_clauses q = prefixed_clauses q.prefix (type_facts q.media) (option_sides q.condition)

-- The clauses of a media list. The empty list, which holds everywhere, has none.
abbrev pub clauses : List Query → List Clause
clauses [] = []
clauses (q ∷ qs) = products (map query_clauses (q ∷ qs))
