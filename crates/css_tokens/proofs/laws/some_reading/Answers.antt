use Rattle.css_tokens.proofs.SomeReading.{reads_or_stops_somewhere}
use Rattle.css_tokens.proofs.laws.some_reading.Goals as goal

pub returns : goal.returns
returns c = reads_or_stops_somewhere
