use Rattle.std.proofs.Common.{refl}
use lib.Utf8.{encode}
use Rattle.css_tokens.proofs.examples.contents.Goals as goal

pub returns : goal.returns
unfolding encode
returns c = record {
  digits = refl;
  six_digits = refl;
  zero = refl;
  surrogate = refl;
  too_great = refl;
  two_bytes = refl;
  itself = refl;
  newline = refl;
  up_to = refl;
}
