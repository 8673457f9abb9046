use Rattle.css_tokens.proofs.SlashStays.{alone_stays, number_no_star, slash_stays}
use Rattle.css_tokens.proofs.laws.numbers_part.Goals as goal

pub returns : goal.returns
returns c = record { slash = slash_stays; number = number_no_star; alone = alone_stays }
