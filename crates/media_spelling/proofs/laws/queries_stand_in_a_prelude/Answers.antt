use Rattle.media_spelling.specs.Preludes.{stands}
use Rattle.media_spelling.proofs.SpellingTests.{passes-stands, queries-pass}
use Rattle.media_spelling.proofs.laws.queries_stand_in_a_prelude.Goals as goal

pub returns : goal.returns
returns c = λ qs. queries-pass stands passes-stands qs
