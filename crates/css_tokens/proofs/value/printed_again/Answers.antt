use Rattle.css_tokens.proofs.PrintedAgain.{value_again_formed, words_value_again, value_text-again, value_words-again, filter-value_again, value_again_starts, value_again_ends}
use Rattle.css_tokens.proofs.value.printed_again.Goals as goal

pub returns : goal.returns
returns c = record {
  words = words_value_again;
  formed = value_again_formed;
  text = value_text-again;
  twice = value_words-again;
  solid = filter-value_again;
  starts = λ v cs c. value_again_starts v c cs;
  ends = λ v cs c. value_again_ends v cs c;
}
