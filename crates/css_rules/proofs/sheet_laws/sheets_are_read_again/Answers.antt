use Rattle.std.proofs.Common.{false, refl}
use Rattle.selector_types.specs.Spelling.{list_spelling}
use Rattle.media_spelling.specs.Spelling.{queries_spelling}
use Rattle.css_rules.proofs.AtRulesAgain.{GroupLaws}
use Rattle.css_rules.proofs.CleanTexts.{ListTexts}
use Rattle.css_rules.proofs.ConditionTexts.{ConditionLaws, conditions-clean}
use Rattle.css_rules.proofs.RulesAgain.{SelectorLaws, items-read}
use Rattle.css_rules.proofs.SheetReads.{ReadLaws, items-read-on}
use Rattle.css_rules.proofs.SheetRound.{NameLaws}
use Rattle.css_rules.proofs.SheetSpelled.{items-formed}
use Rattle.css_rules.proofs.TreeTexts.{clean-strings, list-clean, list-unmarked}
use Rattle.css_rules.proofs.ValueFacts.{ValueLaws}
use Rattle.css_rules.proofs.sheet_laws.sheets_are_read_again.Goals as goal

pub returns : goal.returns
returns c =
    let printed = c.printed_again.ensures in
    let again = c.words_again.ensures in
    let lists = c.selectors_are_read_again.ensures in
    let queries = c.queries_are_read_again.ensures in
    let values : ValueLaws = record { words = printed.words; formed = printed.formed; text = printed.text; twice = printed.twice; one = c.one_pairing.ensures; solid = printed.solid; starts = printed.starts; ends = printed.ends } in
    let names : NameLaws = record { again = c.names_spell.ensures.again } in
    let preludes = c.selectors_stand_in_a_prelude.ensures in
    let selectors : SelectorLaws = record { formed = lists.formed; plain = preludes.words; same = λ ss readable. lists.same false ss (list_spelling ss) 0 readable (lists.formed ss) refl } in
    let groups : GroupLaws = record { queries = λ qs readable. queries.same qs (queries_spelling qs) readable (queries.formed qs) refl; supports = c.supports_are_read_again.ensures.same; queries_stand = c.queries_stand_in_a_prelude.ensures; supports_stand = c.supports_stand_in_a_prelude.ensures; queries_formed = queries.formed; supports_formed = c.supports_are_read_again.ensures.formed } in
    let conditions : ConditionLaws = record { queries = c.query_texts_are_read.ensures; supports = c.supports_texts_are_read.ensures; words = printed.words; before = c.words_are_clean.ensures.before } in
    let strings = c.strings_spell.ensures in
    let texts : ListTexts = record { clean = list-clean (clean-strings strings.utf8 strings.clean); unmarked = list-unmarked; conditions = conditions-clean conditions } in
    let reading : ReadLaws = record {
      composes = again.composes;
      marked = again.marks;
      spaced = again.space;
      fed = again.feed;
      ident = c.names_stay.ensures.ident;
      no_white = c.names_stay.ensures.white;
      plain = c.plain_name.ensures;
      printed = c.values_again.ensures.printed;
      listed = c.selector_text_reads.ensures.reads false;
      begins = preludes.text false;
      texts = texts;
      at = again.at;
      solid_first = again.begins;
      word_spelled = c.values_again.ensures.word_spelled;
      queries = c.query_texts_are_read.ensures;
      supports = c.supports_texts_are_read.ensures;
      queries_begin = c.texts_begin_solid.ensures.queries;
      supports_begin = c.texts_begin_solid.ensures.supports;
    } in
    record {
      reads = items-read-on reading values;
      formed = items-formed values lists.formed groups;
      same = items-read values names selectors groups;
    }
