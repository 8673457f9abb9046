use Rattle.std.proofs.Common.{◌++◌}
use Rattle.css_tokens.specs.Piece.{spelled}
use Rattle.css_tokens.proofs.Beginnings.{dark_none}
use Rattle.css_tokens.proofs.Again.{keeps, composes, marks_stay}
use Rattle.css_tokens.proofs.Stays.{dot_stays, plus_stays, space_stays, feed_stays, ident_stays, hash_stays, at_stays, string_stays, function_stays, url_stays}
use Rattle.css_tokens.proofs.laws.words_again.Goals as goal

pub returns : goal.returns
returns c = record {
  keeps = keeps;
  begins = dark_none;
  composes = λ xs ys s r. composes (spelled xs ++ s) xs ys s r;
  marks = marks_stay;
  dot = dot_stays;
  plus = plus_stays;
  space = space_stays;
  feed = feed_stays;
  ident = ident_stays;
  hash = hash_stays;
  at = at_stays;
  string = string_stays;
  function = function_stays;
  url = url_stays;
}
