use Rattle.sheet_types.proofs.PassedTexts.{texts-printed}
use Rattle.sheet_types.proofs.laws.passed_rules_say_their_texts.Goals as goal

pub returns : goal.returns
returns c = texts-printed c.printed_again.ensures.words
