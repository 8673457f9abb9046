use Rattle.css_tokens.proofs.Beginnings.{end_stops, bang_stops, gap_no_minus, important_no_minus}
use Rattle.css_tokens.proofs.Spelling.{first_spells}
use Rattle.css_tokens.proofs.ValueReads.{value_reads, reads_left, reads_right, each_spells}
use Rattle.css_tokens.proofs.laws.values_again.Goals as goal

pub returns : goal.returns
returns c = record {
  printed = value_reads;
  front = reads_left;
  back = reads_right;
  stops = end_stops;
  bang = bang_stops;
  gap = gap_no_minus;
  important = important_no_minus;
  word_spelled = first_spells;
  words_spelled = each_spells;
}
