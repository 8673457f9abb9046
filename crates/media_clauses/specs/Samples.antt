-- Literals, clauses and lists for the worked examples.
use Prim.Native.String.{String}
use Rattle.std.specs.Prelude.{List, [], ◌∷◌, None, Some, codes}
use Rattle.media_spelling.specs.declared.condition.Condition.{Condition}
use Rattle.media_spelling.specs.declared.condition.Query.{Query}
use Rattle.media_spelling.specs.Samples.{only_if}
use Rattle.media_clauses.specs.declared.clause.Clause.{Clause}
use Rattle.media_clauses.specs.declared.clause.Fact.TheVariants as facts
use Rattle.media_clauses.specs.declared.clause.Literal.{Literal}
use Rattle.media_clauses.specs.Clauses.{clauses, negative, positive}
use Rattle.media_clauses.specs.Lowered.{lowered}

-- a media type that is to be, and one that is not to
abbrev pub on : String → Literal
on media = positive (facts.Media (codes media))

abbrev pub off : String → Literal
off media = negative (facts.Media (codes media))

-- a feature without a value that is to hold, and one that is not to
abbrev pub has : String → Literal
has name = positive (facts.Feature (record { name = codes name; value = None }))

abbrev pub lacks : String → Literal
lacks name = negative (facts.Feature (record { name = codes name; value = None }))

-- the same with a value
abbrev pub holds : String → String → Literal
holds name value = positive (facts.Feature (record { name = codes name; value = Some (codes value) }))

abbrev pub fails : String → String → Literal
fails name value = negative (facts.Feature (record { name = codes name; value = Some (codes value) }))

-- the clause of these literals
abbrev pub clause : List Literal → Clause
clause ls = record { literals = ls }

-- the clauses of a condition, and its lowered form
abbrev pub clauses_of : Condition → List Clause
clauses_of c = clauses (only_if c ∷ [])

abbrev pub lowered_condition : Condition → List (List Query)
lowered_condition c = lowered (only_if c ∷ [])

-- the lowered form of one query
abbrev pub lowered_query : Query → List (List Query)
lowered_query q = lowered (q ∷ [])
