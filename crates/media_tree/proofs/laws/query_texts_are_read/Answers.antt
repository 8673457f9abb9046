use Rattle.std.proofs.Common.{refl}
use Rattle.css_tokens.specs.declared.kind.Kind.TheVariants as kinds
use Rattle.css_tokens.specs.NameText.{name_text}
use Rattle.media_tree.proofs.QueriesRead.{queries-on}
use Rattle.media_tree.proofs.laws.query_texts_are_read.Goals as goal

pub returns : goal.returns
returns c =
    let again = c.words_again.ensures in
    let stay = c.names_stay.ensures in
    queries-on (record {
      words = record { composes = again.composes; marked = again.marks; spaced = again.space; ident = stay.ident; plain = c.plain_name.ensures };
      child = stay.child;
      less = c.less_than_stays.ensures.less;
      less_equal = c.less_than_stays.ensures.equals;
      no_white = stay.white;
      no_bang = λ n rest h. c.values_stand_by_relations.ensures.no_bang kinds.Ident (name_text n) rest refl refl (c.names_spell.ensures.ident n h);
      means = c.names_spell.ensures.again;
    })
