use Rattle.css_tokens.proofs.SlashStays.{less_before_equals, less_stays}
use Rattle.css_tokens.proofs.laws.less_than_stays.Goals as goal

pub returns : goal.returns
returns c = record { less = less_stays; equals = less_before_equals }
