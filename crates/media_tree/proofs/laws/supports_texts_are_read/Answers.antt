use Rattle.media_tree.proofs.SupportsRead.{supports-on}
use Rattle.media_tree.proofs.laws.supports_texts_are_read.Goals as goal

pub returns : goal.returns
returns c =
    let again = c.words_again.ensures in
    supports-on (record {
      words = record { composes = again.composes; marked = again.marks; spaced = again.space; ident = c.names_stay.ensures.ident; plain = c.plain_name.ensures };
      again = c.printed_again.ensures.words;
      printed = c.values_again.ensures.printed;
    })
