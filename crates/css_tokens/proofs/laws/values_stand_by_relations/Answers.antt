use Rattle.css_tokens.proofs.RelationStays.{dimension_before_greater, dimension_before_space, ident_before_greater, ident_before_space, no-bang, number_before_greater, number_before_space}
use Rattle.css_tokens.proofs.laws.values_stand_by_relations.Goals as goal

pub returns : goal.returns
returns c = record {
  number = number_before_greater;
  dimension = dimension_before_greater;
  ident = ident_before_greater;
  number_space = number_before_space;
  dimension_space = dimension_before_space;
  ident_space = ident_before_space;
  no_bang = no-bang;
}
