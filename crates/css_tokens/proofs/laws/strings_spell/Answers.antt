use Rattle.css_tokens.proofs.DecodedNames.{string_content}
use Rattle.css_tokens.proofs.StringSpelling.{string_spells, string_again, string_utf8, string_clean}
use Rattle.css_tokens.proofs.laws.strings_spell.Goals as goal

pub returns : goal.returns
returns c = record { string = string_spells; again = string_again; utf8 = string_utf8; clean = string_clean; decoded = string_content }
