use Rattle.media_tree.proofs.WholeTexts.{all-read, all-spelled}
use Rattle.media_tree.proofs.laws.texts_give_spelled_words.Goals as goal

pub returns-clause-spelled : goal.returns-clause-spelled
returns-clause-spelled c = all-spelled (record { clean = c.words_are_clean.ensures.whole; spell = c.values_again.ensures.words_spelled })

pub returns-clause-read : goal.returns-clause-read
returns-clause-read c = all-read
