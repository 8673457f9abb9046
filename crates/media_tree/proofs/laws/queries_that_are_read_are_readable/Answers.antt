use Rattle.media_tree.proofs.BracketsRead.{closed}
use Rattle.media_tree.proofs.FeaturesReadable.{ReadLaws}
use Rattle.media_tree.proofs.PartsRead.{Splits}
use Rattle.media_tree.proofs.QueriesReadable.{queries-readable, values-stand}
use Rattle.media_tree.proofs.ValueWords.{Ensured, word-laws}
use Rattle.std.proofs.Common.{[], refl}
use Rattle.media_tree.proofs.laws.queries_that_are_read_are_readable.Goals as goal

abbrev splits : goal.After-values_stand_by_relations → Splits
splits c = record { front = c.values_again.ensures.front; back = c.values_again.ensures.back }

abbrev ensured : goal.After-values_stand_by_relations → Ensured
ensured c =
    let part = c.numbers_part.ensures in
    let by = c.values_stand_by_relations.ensures in
    record {
      firsts = c.names_spell.ensures.first;
      keeps = c.words_again.ensures.keeps;
      alone = part.alone;
      slash = part.slash;
      no_star = part.number;
      no_bang = by.no_bang;
      comment = c.words_again.ensures.marks.1.1.1.1.1.1.1.1.1.1.1.1.1.1.1.1.1.1.0;
      number = by.number;
      dimension = by.dimension;
      ident = by.ident;
      number_space = by.number_space;
      dimension_space = by.dimension_space;
      ident_space = by.ident_space;
    }

abbrev laws : goal.After-values_stand_by_relations → ReadLaws
laws c =
    let marks = c.words_again.ensures.marks in
    let bracket = c.closing_brackets_stand.ensures in
    record {
      decoded = c.names_spell.ensures.decoded;
      words = word-laws (ensured c);
      printing = record {
        firsts = c.names_spell.ensures.first;
        formed = c.printed_again.ensures.formed;
        words = c.printed_again.ensures.words;
        text = c.printed_again.ensures.text;
        printed = λ v formed reads. c.values_again.ensures.printed v [] [] formed refl refl refl reads;
        closed = closed (record {
          parenthesis = record { stays = marks.1.1.1.0; reads = bracket.parenthesis };
          square = record { stays = marks.1.1.1.1.1.0; reads = bracket.square };
          brace = record { stays = marks.1.0; reads = bracket.brace };
          composes = c.words_again.ensures.composes;
        }) (splits c);
        no_bang = c.values_stand_by_relations.ensures.no_bang;
      };
    }

pub returns-clause-readable : goal.returns-clause-readable
returns-clause-readable c = queries-readable (laws c) (splits c)

pub returns-clause-values : goal.returns-clause-values
returns-clause-values c = values-stand (laws c) (splits c)
