use Rattle.css_tokens.proofs.Within.{places_rise_in, places_within, mismatch_within, deep_within, unclosed_within}
use Rattle.css_tokens.proofs.laws.places_rise_in_a_text.Goals as goal

pub returns : goal.returns
returns c = record { rise = places_rise_in; within = places_within; mismatch = mismatch_within; deep = deep_within; unclosed = unclosed_within }
