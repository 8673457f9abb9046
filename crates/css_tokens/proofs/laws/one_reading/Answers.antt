use Rattle.css_tokens.proofs.OneReading.{reads_one, stops_at_one, reads_or_stops}
use Rattle.css_tokens.specs.Tokens.{after_mark}
use Rattle.css_tokens.proofs.Within.{stops_within}
use Rattle.css_tokens.proofs.laws.one_reading.Goals as goal

pub returns : goal.returns
returns c = record { one = λ t a b h k. reads_one (after_mark t) a b h.1 k.1; place = stops_at_one; either = reads_or_stops; within = stops_within }
