use Rattle.css_tokens.proofs.NameSpelling.{name_digit, name_dot, name_white, name_stays, name_child, name_hash_stays, plus_dot_stays}
use Rattle.css_tokens.proofs.laws.names_stay.Goals as goal

pub returns : goal.returns
returns c = record { digit = name_digit; dot = name_dot; white = name_white; ident = name_stays; child = name_child; hash = name_hash_stays; plus_dot = plus_dot_stays }
