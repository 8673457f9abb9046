use Rattle.media_tree.proofs.SupportsReadable.{inside-readable, supports-readable}
use Rattle.media_tree.proofs.laws.supports_that_are_read_are_readable.Goals as goal

pub returns-clause-reading : goal.returns-clause-reading
returns-clause-reading c = supports-readable (record { decoded = c.names_spell.ensures.decoded; formed = c.printed_again.ensures.formed; solid = c.printed_again.ensures.solid })

pub returns-clause-inside : goal.returns-clause-inside
returns-clause-inside c = inside-readable (record { decoded = c.names_spell.ensures.decoded; formed = c.printed_again.ensures.formed; solid = c.printed_again.ensures.solid })
