use Rattle.css_tokens.proofs.DecodedNames.{ident_name, at_name}
use Rattle.css_tokens.proofs.HashFirst.{any_hash_name}
use Rattle.css_tokens.proofs.NameSpelling.{name_spells, name_hash, name_again}
use Rattle.css_tokens.proofs.Spelling.{first_spells}
use Rattle.css_tokens.proofs.laws.names_spell.Goals as goal

pub returns : goal.returns
returns c = record { ident = name_spells; hash = name_hash; again = name_again; hash_again = name_again; decoded = ident_name; hash_decoded = any_hash_name; at_decoded = at_name; first = first_spells }
