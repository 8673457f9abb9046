-- Supports conditions as they are read again, and those in which no function stands (Conditional Rules 3, section 6).
use Rattle.std.specs.Prelude.{ℕ, List, Bool, true, false}
use Rattle.std.specs.List.{list_all}
use Rattle.css_tokens.specs.ValueAgain.{value_again}
use Rattle.media_spelling.specs.declared.supports.Supports.{Supports}
use Rattle.media_spelling.specs.declared.supports.Supports as supports
use Rattle.media_spelling.specs.SupportsFold.{Steps, folded}

-- each with its values as they print, and functions at the place 0
abbrev pub again_steps : Steps Supports
again_steps = record {
  and_of = λ cs. supports.And cs;
  or_of = λ cs. supports.Or cs;
  not_of = λ c. supports.Not c;
  declared = λ name value. supports.Declared name (value_again value);
  function = λ at. supports.Function 0;
}

-- a supports condition as it is read again
abbrev pub supports_again : Supports → Supports
supports_again = folded again_steps

-- Does no function stand in it?
abbrev pub functionless : Steps Bool
functionless = record {
  and_of = λ bs. list_all (λ b. b) bs;
  or_of = λ bs. list_all (λ b. b) bs;
  not_of = λ b. b;
  declared = λ name value. true;
  function = λ at. false;
}

-- a supports condition without functions
abbrev pub has_no_function : Supports → Bool
has_no_function = folded functionless
