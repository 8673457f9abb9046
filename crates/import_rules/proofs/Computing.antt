-- How preludes that are written out compute.
use Rattle.media_tree.proofs.Computing.{computing as media_computing}
use Rattle.sheet_types.proofs.Computing.{computing as item_computing}

-- the equations by which the worked examples compute
pub ruleset computing = (media_computing, item_computing)
