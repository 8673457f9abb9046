use Rattle.media_spelling.proofs.SupportsTests.{supports-stand}
use Rattle.media_spelling.proofs.laws.supports_stand_in_a_prelude.Goals as goal

pub returns : goal.returns
returns c = λ s. supports-stand s
