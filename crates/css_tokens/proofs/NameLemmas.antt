-- What names are cut at.
use Rattle.std.proofs.Common.{◌≡◌, ℕ, ◌<◌, true, arith}
use Rattle.std.proofs.lemmas.Bool.Decides.{nat_tests}
use Rattle.css_tokens.specs.Contents.{is_space}

pub is_space-ascii : (b : ℕ) → is_space b ≡ true → b < 128
is_space-ascii b e = grind (arith, nat_tests)
