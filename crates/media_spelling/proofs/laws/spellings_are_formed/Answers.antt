use Rattle.css_tokens.specs.Trees.{is_formed}
use Rattle.media_spelling.proofs.SpellingTests.{passes-formed, queries-pass}
use Rattle.media_spelling.proofs.SupportsTests.{supports-formed}
use Rattle.media_spelling.proofs.laws.spellings_are_formed.Goals as goal

pub returns-clause-queries : goal.returns-clause-queries
returns-clause-queries c = λ qs. queries-pass is_formed passes-formed qs

pub returns-clause-supports : goal.returns-clause-supports
returns-clause-supports c = λ s. supports-formed c.printed_again.ensures.formed s
