use Rattle.css_tokens.proofs.NumberStays.{dimension_stays, number_stays}
use Rattle.css_tokens.proofs.laws.numbers_stay.Goals as goal

pub returns : goal.returns
returns c = record { number = number_stays; dimension = dimension_stays }
