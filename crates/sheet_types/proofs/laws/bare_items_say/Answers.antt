use Rattle.sheet_types.proofs.SaidItems.{filled-said, same-said}
use Rattle.sheet_types.proofs.laws.bare_items_say.Goals as goal

pub returns : goal.returns
returns c = record { same = same-said; filled = filled-said }
