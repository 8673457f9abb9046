use Rattle.media_tree.proofs.DeclarationsAgain.{declarations-again}
use Rattle.media_tree.proofs.SupportsAgain.{supports-again}
use Rattle.media_tree.proofs.laws.supports_are_read_again.Goals as goal

pub returns-clause-formed : goal.returns-clause-formed
returns-clause-formed c = c.spellings_are_formed.ensures.supports

pub returns-clause-same : goal.returns-clause-same
returns-clause-same c = λ s r. supports-again (declarations-again c.names_spell.ensures.again (record { starts = c.printed_again.ensures.starts; ends = c.printed_again.ensures.ends })) s r
