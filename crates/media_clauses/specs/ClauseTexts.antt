-- How a clause prints: its literals with commas between them (this project's own layout).
use Rattle.std.specs.Prelude.{ℕ, List, [], ◌∷◌, ◌++◌, flat_map, Bool, true, false, codes}
use Rattle.css_tokens.specs.NameText.{name_text}
use Rattle.media_spelling.specs.Components.{text_of}
use Rattle.media_spelling.specs.Spelling.{feature_spelling}
use Rattle.media_clauses.specs.declared.clause.Clause.{Clause}
use Rattle.media_clauses.specs.declared.clause.Fact.{Fact}
use Rattle.media_clauses.specs.declared.clause.Fact.TheVariants as facts
use Rattle.media_clauses.specs.declared.clause.Literal.{Literal}

-- a media type `T` or `not T`, a feature `(f)` or `not all and (f)`
abbrev pub fact_text : Bool → Fact → List ℕ
fact_text true (facts.Media media) = name_text media
fact_text false (facts.Media media) = codes "not " ++ name_text media
fact_text true (facts.Feature f) = text_of (feature_spelling f ∷ [])
fact_text false (facts.Feature f) = codes "not all and " ++ text_of (feature_spelling f ∷ [])

abbrev pub literal_text : Literal → List ℕ
literal_text l = fact_text l.positive l.fact

-- literals with commas between them, and `not all` where there are none
abbrev pub literals_text : List Literal → List ℕ
literals_text [] = codes "not all"
literals_text (l ∷ ls) = literal_text l ++ flat_map (λ m. codes "," ++ literal_text m) ls

-- a clause
abbrev pub clause_text : Clause → List ℕ
clause_text c = literals_text c.literals
