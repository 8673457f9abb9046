use Rattle.cascade_spec.proofs.KeepsLemmas.{TextLaws, one-sheet, text-plain, text-printable, text-stands}
use Rattle.cascade_spec.proofs.laws.sheets_of_texts.Goals as goal

pub returns : goal.returns
returns c =
    let laws : TextLaws = record {
      one = c.one_reading.ensures.one;
      names = record { decoded = c.names_spell.ensures.decoded; hash_decoded = c.names_spell.ensures.hash_decoded; string_decoded = c.strings_spell.ensures.decoded; clean = c.words_are_clean.ensures.whole; spelled = c.values_again.ensures.words_spelled };
      read = c.texts_give_spelled_words.ensures.read;
      printable = c.sheets_are_printable.ensures;
      plain = c.sheets_are_plain.ensures;
      standing = c.values_stand.ensures;
      places = c.places_do_not_matter.ensures;
    } in
    record { printable = text-printable laws; stand = text-stands laws; plain = text-plain laws; one = one-sheet laws }
