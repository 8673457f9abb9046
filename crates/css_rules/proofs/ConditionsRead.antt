-- Conditions of groups that are read have a spelling that reads as they again.
use Rattle.std.proofs.Common.{◌≡◌, ℕ, List, [], ◌∷◌, ◌++◌, true, refl, Some, IsTrue, not}
use Rattle.std.specs.List.{list_all, list_any}
use Rattle.std.specs.Str.{is_utf8}
use Rattle.css_tokens.specs.declared.component.Component.{Component}
use Rattle.css_tokens.specs.Piece.{Word, spelled}
use Rattle.css_tokens.specs.Tokens.{ReadsTo, is_control, spells}
use Rattle.css_tokens.specs.Trees.{all_formed, words_all}
use Rattle.media_spelling.specs.declared.condition.Query.{Query}
use Rattle.media_spelling.specs.declared.supports.Supports.{Supports as Condition}
use Rattle.media_spelling.specs.SupportsAgain.{has_no_function}
use Rattle.media_tree.specs.Queries.{queries_reading}
use Rattle.media_tree.specs.ReadValues.{ValuesStand}
use Rattle.media_tree.specs.ReadableQueries.{are_readable_queries}
use Rattle.media_tree.specs.SpelledWords.{AreRead, is_spelled as is_spelled_word}
use Rattle.media_tree.specs.SupportsAgain.{is_readable_supports}
use Rattle.media_tree.specs.SupportsReading.{supports_reading}
use Rattle.selector_types.specs.ReadableSelectors.{is_clean, is_named, is_spelled}
use Rattle.sheet_types.specs.declared.sheet.GroupCondition.{GroupCondition}
use Rattle.sheet_types.specs.declared.sheet.GroupCondition.TheVariants.{Media, Supports}
use Rattle.css_rules.specs.Printable.{IsPrintableCondition, is_whole_condition}
use Rattle.css_rules.proofs.AtRuleShapes.{ReadsCondition}
use Rattle.css_rules.proofs.BoolLemmas.{and-both, and-left, and-right}
use Rattle.css_rules.proofs.FromSourceParts.{sound-formed, sound-spelled}
use Rattle.css_rules.proofs.SourceRules.{AreStopped}

-- what is ensured of words that are read one after another
abbrev pub WordsSpelled : Type 0
WordsSpelled = (t : List ℕ) (ws : List Word) (s : List ℕ) → ReadsTo t ws s → list_all (λ w. spells w.kind w.text) ws ≡ true

-- what is ensured of media query lists: what is read can be spelled
abbrev pub QueriesReadable : Type 0
QueriesReadable = (cs : List Component) (qs : List Query) → IsTrue (all_formed cs) → IsTrue (list_all is_spelled_word (words_all cs)) → AreRead cs → queries_reading cs ≡ Some qs → IsTrue (are_readable_queries qs)

-- what is ensured of conditions besides
pub record ConditionLaws : Type 0 where
  pub words : WordsSpelled
  pub queries : QueriesReadable
  pub values : (cs : List Component) (qs : List Query) → IsTrue (all_formed cs) → IsTrue (list_all is_spelled_word (words_all cs)) → AreRead cs → queries_reading cs ≡ Some qs → ValuesStand qs
  pub supports : (cs : List Component) (s : Condition) → IsTrue (all_formed cs) → IsTrue (list_all is_spelled_word (words_all cs)) → supports_reading cs ≡ Some s → IsTrue (has_no_function s) → IsTrue (is_readable_supports s)

-- Words that are clean, and that spell their kinds, are spelled.
words-both : (ws : List Word) → list_all is_spelled ws ≡ true → list_all (λ w. spells w.kind w.text) ws ≡ true → list_all is_spelled_word ws ≡ true
words-both [] clean read = refl
words-both (w ∷ ws) clean read =
    let here = and-left (is_utf8 w.text) (not (list_any is_control w.text)) (and-left (is_clean w.text) (is_named w.kind w.text) (and-left (is_spelled w) (list_all is_spelled ws) clean)) in
    let kind = and-left (spells w.kind w.text) (list_all (λ w. spells w.kind w.text) ws) read in
    and-both (is_spelled_word w) (list_all is_spelled_word ws)
    (and-both (is_utf8 w.text) (spells w.kind w.text) here kind)
    (words-both ws (and-right (is_spelled w) (list_all is_spelled ws) clean) (and-right (spells w.kind w.text) (list_all (λ w. spells w.kind w.text) ws) read))

words-spelled : WordsSpelled → (cs : List Component) → AreStopped is_spelled cs → list_all is_spelled_word (words_all cs) ≡ true
words-spelled words cs stopped =
    words-both (words_all cs) (sound-spelled is_spelled cs stopped.sound) (words (spelled (words_all cs) ++ stopped.before.behind) (words_all cs) stopped.before.behind stopped.before.reads)

pub queries-readable : WordsSpelled → QueriesReadable → (cs : List Component) (qs : List Query) → AreStopped is_spelled cs → queries_reading cs ≡ Some qs → are_readable_queries qs ≡ true
queries-readable words queries cs qs stopped e =
    queries cs qs (sound-formed is_spelled cs stopped.sound) (words-spelled words cs stopped) (record { behind = stopped.before.behind; reads = stopped.before.reads }) e

pub condition-printable : ConditionLaws → (c : GroupCondition) (cs : List Component) → AreStopped is_spelled cs → ReadsCondition cs c → is_whole_condition c ≡ true → IsPrintableCondition c
condition-printable laws (Media qs) cs stopped e whole = record {
  readable = queries-readable laws.words laws.queries cs qs stopped e;
  values = laws.values cs qs (sound-formed is_spelled cs stopped.sound) (words-spelled laws.words cs stopped) (record { behind = stopped.before.behind; reads = stopped.before.reads }) e;
}
condition-printable laws (Supports s) cs stopped e whole = laws.supports cs s (sound-formed is_spelled cs stopped.sound) (words-spelled laws.words cs stopped) e whole
