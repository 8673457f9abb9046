use Rattle.std.proofs.Common.{refl}
use Rattle.std.specs.Fmt.{digits}
use Rattle.css_tokens.proofs.examples.strings.Goals as goal

pub returns : goal.returns
unfolding digits
returns c = record { plain = refl; empty = refl; quote = refl; backslash = refl; line_feed = refl; delete = refl; two_bytes = refl }
