-- A clause prints as the queries that it is made into.
use Rattle.std.proofs.Common.{◌≡◌, ℕ, List, [], ◌∷◌, ◌++◌, Bool, true, false, map, flat_map, refl, ◌∙◌, ap}
use Rattle.std.specs.Prelude.{codes, Some, None}
use Rattle.std.specs.Str.{chars}
use lib.Utf8.{encode}
use Rattle.media_spelling.specs.declared.condition.Condition as condition
use Rattle.media_spelling.specs.Private.Texts.{query_text, typed_text}
use Rattle.media_spelling.specs.Spelling.{queries_text}
use Rattle.css_tokens.specs.NameText.{name_text}
use Rattle.media_spelling.proofs.SpellingTexts.{behind-Feature, text-Feature, text-not, text-plain, text-queries, text-query, typed-both, typed-condition, typed-media}
use Rattle.media_clauses.specs.declared.clause.Clause.{Clause}
use Rattle.media_clauses.specs.declared.clause.Fact.{Fact}
use Rattle.media_clauses.specs.declared.clause.Fact.TheVariants as facts
use Rattle.media_clauses.specs.declared.clause.Literal.{Literal}
use Rattle.media_clauses.specs.ClauseTexts.{clause_text, fact_text, literal_text, literals_text}
use Rattle.media_clauses.specs.Lowered.{clause_queries, fact_query, literal_queries, literal_query}

-- one literal
fact-query-text : (wanted : Bool) (fact : Fact) → query_text (fact_query wanted fact) ≡ fact_text wanted fact
unfolding chars encode
fact-query-text true (facts.Media media) =
    text-query (fact_query true (facts.Media media))
    ∙ ap (λ (t : List ℕ). t ++ typed_text (Some media) None) text-plain
    ∙ typed-media media
fact-query-text false (facts.Media media) =
    text-query (fact_query false (facts.Media media))
    ∙ ap (λ (t : List ℕ). t ++ typed_text (Some media) None) text-not
    ∙ ap (λ (t : List ℕ). codes "not " ++ t) (typed-media media)
fact-query-text true (facts.Feature f) =
    text-query (fact_query true (facts.Feature f))
    ∙ ap (λ (t : List ℕ). t ++ typed_text None (Some (condition.Feature f))) text-plain
    ∙ typed-condition (condition.Feature f)
    ∙ text-Feature f
fact-query-text false (facts.Feature f) =
    text-query (fact_query false (facts.Feature f))
    ∙ ap (λ (t : List ℕ). t ++ typed_text (Some (codes "all")) (Some (condition.Feature f))) text-not
    ∙ ap (λ (t : List ℕ). codes "not " ++ t) (typed-both (codes "all") (condition.Feature f))
    ∙ ap (λ (t : List ℕ). codes "not " ++ (name_text (codes "all") ++ (codes " and " ++ t))) (behind-Feature f ∙ text-Feature f)

further-texts : (ls : List Literal) → flat_map (λ q. codes "," ++ query_text q) (map literal_query ls) ≡ flat_map (λ l. codes "," ++ literal_text l) ls
further-texts [] = refl
further-texts (l ∷ ls) =
    ap (λ (t : List ℕ). (codes "," ++ t) ++ flat_map (λ q. codes "," ++ query_text q) (map literal_query ls)) (fact-query-text l.positive l.fact)
    ∙ ap (λ (t : List ℕ). (codes "," ++ literal_text l) ++ t) (further-texts ls)

literals-text : (ls : List Literal) → queries_text (literal_queries ls) ≡ literals_text ls
unfolding chars encode
literals-text [] =
    text-queries (literal_queries [])
    ∙ ap (λ (t : List ℕ). t ++ []) (fact-query-text false (facts.Media (codes "all")))
literals-text (l ∷ ls) =
    text-queries (map literal_query (l ∷ ls))
    ∙ ap (λ (t : List ℕ). t ++ flat_map (λ q. codes "," ++ query_text q) (map literal_query ls)) (fact-query-text l.positive l.fact)
    ∙ ap (λ (t : List ℕ). literal_text l ++ t) (further-texts ls)

pub clause-text : (c : Clause) → queries_text (clause_queries c) ≡ clause_text c
clause-text c = literals-text c.literals
