-- Imports as they are read, with each place at 0.
use Rattle.sheet_types.specs.BareItems.{bare_import}
use Rattle.import_rules.specs.declared.import.ImportRule.{ImportRule}
use Rattle.import_rules.specs.declared.import.ImportRule.TheVariants.{Read, Waiting, Unread}

-- the same, its import at the place 0 and with its condition as it prints
abbrev pub bare_rule : ImportRule → ImportRule
bare_rule (Read i) = Read (bare_import i)
bare_rule Waiting = Waiting
bare_rule Unread = Unread
