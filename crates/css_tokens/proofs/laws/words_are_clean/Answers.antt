use Rattle.css_tokens.specs.Piece.{spelled}
use Rattle.css_tokens.proofs.OneReading.{words_clean}
use Rattle.css_tokens.proofs.WordTexts.{clean_words, none-any}
use Rattle.css_tokens.proofs.laws.words_are_clean.Goals as goal

pub returns : goal.returns
returns c = record { whole = clean_words; before = λ t ws r h. none-any (spelled ws) (words_clean t ws r h) }
