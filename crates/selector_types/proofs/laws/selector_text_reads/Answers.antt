use Rattle.std.proofs.Common.{◌++◌, codes, refl}
use Rattle.selector_types.proofs.TextReads.{text-reads}
use Rattle.selector_types.proofs.laws.selector_text_reads.Goals as goal

pub returns : goal.returns
returns c =
    let again = c.words_again.ensures in
    let stay = c.names_stay.ensures in
    record {
      reads = text-reads (record {
        composes = again.composes;
        marked = again.marks;
        dotted = again.dot;
        added = again.plus;
        added_dot = stay.plus_dot;
        spaced = again.space;
        ident = stay.ident;
        child = stay.child;
        hashed = stay.hash;
        no_digit = stay.digit;
        no_dot = stay.dot;
        no_white = stay.white;
        called = again.function;
        quoted = again.string;
        stringed = c.strings_spell.ensures.string;
        plained = c.plain_name.ensures;
        numbered = λ sign ds rest s d. c.numbers_stay.ensures.number sign ds (codes ")" ++ rest) s d refl;
        measured = c.numbers_stay.ensures.dimension;
      });
    }
